use Rattle.std.specs.Prelude.{◌≡◌, suc, ◌-◌}
use Rattle.pattern_shortest.specs.Pattern.{from_scale, pattern_of}
use Rattle.pattern_shortest.proofs.of_job.Given as goal

abbrev pub invariant-loop-i : goal.invariant-loop-i
invariant-loop-i l = pattern_of l.job ≡ from_scale l.job (suc l.job.k - l.i) l.i
