-- The first j marks have what is left of their regions' lists. Assumes nothing.
use Rattle.std.proofs.Common.{◌≡◌, ℕ, ◌<◌, length}
use Rattle.ranks.specs.Rest.{at}
use Rattle.walk_list.specs.Walk.{rank_of}
use Rattle.tray_list.specs.Tray.{job_at}
use Rattle.tray_merge.specs.Lane.{left_of}
use Rattle.tray_merge.specs.Lanes.{mark_at}
use Rattle.tray_merge.proofs.lanes.floors.Given as goal

abbrev pub invariant-loop-j : goal.invariant-loop-j
invariant-loop-j l = record { long : length l.marks ≡ 8; held : (i : ℕ) → i < l.j → left_of (job_at l.t i) (mark_at l.marks i) ≡ left_of (job_at l.t i) (at (rank_of l.from)) }
