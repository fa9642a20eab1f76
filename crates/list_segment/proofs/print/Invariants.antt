use Rattle.std.proofs.Common.{◌≡◌, length, cond, []}
use Rattle.walk_list.specs.Walk.{full, rank_of}
use Rattle.list_segment.specs.Part.{part_lines}
use Rattle.list_segment.specs.Segment.{segment_from, rank_lines, weight}
use Rattle.list_segment.specs.Printed.{Going}
use Rattle.list_segment.proofs.print.Given as goal

abbrev pub invariant-loop-more : goal.invariant-loop-more
invariant-loop-more g l = (length l.out ≡ 131072) × Going (part_lines l.fn.job.k l.fn.lo l.fn.hi (full l.fn.job)) (rank_lines l.fn.job.k (cond l.more (segment_from l.fn.job l.fn.hi (rank_of l.from)) []))

abbrev pub decreases-loop-more : goal.decreases-loop-more
decreases-loop-more g l = weight l.more (length (segment_from l.fn.job l.fn.hi (rank_of l.from)))
