-- The nearest of the marks so far. Assumes nothing.
use Rattle.std.proofs.Common.{◌≡◌}
use Rattle.walk_list.specs.Walk.{spot_of}
use Rattle.tray_merge.specs.Past.{nearest_of}
use Rattle.tray_merge.specs.Lanes.{mark_at}
use Rattle.tray_merge.proofs.lanes.reach.Given as goal

abbrev pub invariant-loop-m : goal.invariant-loop-m
invariant-loop-m l = spot_of l.spot ≡ nearest_of l.m-index (mark_at l.fn.marks)
