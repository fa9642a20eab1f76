use Rattle.std.proofs.Common.{◌≡◌}
use lib.Seq.{paste}
use Rattle.text_hex.specs.Hex.{pairs}
use Rattle.text_hex.proofs.put_pairs.Given as goal

abbrev pub invariant-loop-i : goal.invariant-loop-i
invariant-loop-i l = l.out ≡ paste l.initial.out 0 (pairs l.word) l.i
