use Rattle.std.proofs.Common.{◌≡◌}
use lib.Seq.{paste}
use Rattle.gate_alphabet.specs.Letters.{bytes}
use Rattle.gate_qasm.specs.Text.{word_of}
use Rattle.gate_qasm.proofs.letters.put_word.Given as goal

abbrev pub invariant-loop-i : goal.invariant-loop-i
invariant-loop-i l = l.word ≡ paste l.initial.word 0 (bytes (word_of l.text)) l.i
