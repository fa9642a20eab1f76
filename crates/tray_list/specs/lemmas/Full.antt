-- A tray's full list holds just the points that at least one of its jobs lists, in point order, each once, and no other list does.
use Rattle.std.specs.Prelude.{Bool}
use Rattle.ring.specs.declared.Point.{Point}
use Rattle.region.specs.Selection.{listed}
use Rattle.tray_list.specs.declared.Tray.{Tray}
use Rattle.tray_list.specs.Tray.{some, job_at, size}

-- a job of the tray lists v
abbrev pub listed_under : Tray → Point → Bool
listed_under t v = some (size t) (λ j. listed (job_at t j) v)
