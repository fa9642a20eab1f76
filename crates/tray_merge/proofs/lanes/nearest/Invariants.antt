-- The nearest of the first j fronts. Assumes nothing.
use Rattle.std.proofs.Common.{◌≡◌}
use Rattle.walk_list.specs.Walk.{spot_of}
use Rattle.tray_merge.specs.Past.{nearest_of}
use Rattle.tray_merge.specs.Lanes.{front_at}
use Rattle.tray_merge.proofs.lanes.nearest.Given as goal

abbrev pub invariant-loop-j : goal.invariant-loop-j
invariant-loop-j l = spot_of l.spot ≡ nearest_of l.j (front_at l.queue l.at l.end)
