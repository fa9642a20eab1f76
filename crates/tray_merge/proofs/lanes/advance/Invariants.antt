-- The first j lanes are behind the point, and the next lane's bit is 2^j. Assumes nothing.
use Rattle.std.proofs.Common.{◌≡◌, ◌^◌}
use Rattle.walk_list.specs.Walk.{rank_of, spot_of}
use Rattle.tray_merge.specs.Lanes.{Passed}
use Rattle.tray_merge.proofs.lanes.advance.Given as goal

abbrev pub invariant-loop-j : goal.invariant-loop-j
invariant-loop-j l = record { power : l.bit ≡ 2 ^ l.j; passed : Passed l.queue l.initial.at l.end (rank_of l.v) l.j l.at l.mask (spot_of l.spot) }
