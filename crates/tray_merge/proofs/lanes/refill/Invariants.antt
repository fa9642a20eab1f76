-- The first j lanes are filled where they are due. Assumes nothing.
use Rattle.walk_list.specs.Walk.{spot_of}
use Rattle.tray_merge.specs.Lanes.{source_at, Filling}
use Rattle.tray_merge.proofs.lanes.refill.Given as goal

abbrev pub invariant-loop-j : goal.invariant-loop-j
invariant-loop-j l = Filling (λ i. (source_at l.sources i).job) l.size l.initial.queue l.initial.at l.initial.end l.initial.after (spot_of l.front) l.j l.queue l.at l.end l.after
