-- The numbers ahead, put after what is there, are all of them.
use Rattle.std.proofs.Common.{◌≡◌, drop}
use Rattle.text_puts.specs.Puts.{puts}
use Rattle.record_text.specs.Texts.{numbers_texts}
use Rattle.record_text.proofs.put_numbers.Given as goal

abbrev pub invariant-loop-z : goal.invariant-loop-z
invariant-loop-z l = puts (l.out, l.a) (numbers_texts (drop l.z-index l.numbers)) ≡ puts (l.initial.out, l.at) (numbers_texts l.numbers)
