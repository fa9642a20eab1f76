-- The first j sources are made. Assumes nothing.
use Rattle.std.proofs.Common.{◌≡◌, ℕ, ◌<◌, length}
use Rattle.tray_list.specs.Tray.{job_at}
use Rattle.tray_merge.specs.Lanes.{source_at, Made}
use Rattle.tray_merge.proofs.lanes.open.Given as goal

abbrev pub invariant-loop-j : goal.invariant-loop-j
invariant-loop-j l = record { long : length l.sources ≡ 8; made : (i : ℕ) → i < l.j → Made (job_at l.t i) (source_at l.sources i) }
