use Rattle.std.proofs.Common.{refl, [], w32}
use mir.Facts.{to_z-of_z}
use Rattle.part.specs.Answered.{printed_empty, printed_stage}
use Rattle.part.proofs.lines.Goals as goal

pub returns-in-Early : goal.returns-in-Early
returns-in-Early g c = rw c.in-Early.is (printed_empty c.args.lo c.args.hi 0 [] refl)

pub returns-in-Walking : goal.returns-in-Walking
returns-in-Walking g c = printed_stage c.args.lo c.args.hi c.args.s _ _ c.in-Walking.is (rw (to_z-of_z {w = w32} c.ranges.lo, to_z-of_z {w = w32} c.ranges.hi) at c.of_job.ensures)
