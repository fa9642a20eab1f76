use Rattle.std.proofs.Common.{length, ◌-◌}
use Rattle.test_rows.proofs.Numbers.of.Given as goal

abbrev pub decreases-loop-i : goal.decreases-loop-i
decreases-loop-i l = length l.s - l.i
