use Rattle.std.proofs.Common.{◌+◌, ◌^◌, ◌≤◌, max, length}
use Rattle.integers_wide.specs.Meaning.{size_of}
use Rattle.text_scan.proofs.Saturation.{Counted}
use Rattle.text_scan.proofs.digits_from.Given as goal

abbrev pub invariant-loop-end : goal.invariant-loop-end
invariant-loop-end l = Counted (2 ^ 127 + 1) l.s l.at (size_of l.value) l.end × (l.end ≤ max l.at (length l.s))
