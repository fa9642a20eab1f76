-- A tray's full list holds just the points that at least one of its jobs lists, in point order, each once, and no other list does.
use Rattle.std.specs.Prelude.{◌≡◌, true, List, ◌↔◌, ℕ, ◌<◌}
use Rattle.ring.specs.declared.Point.{Point}
use Rattle.region.specs.Selection.{listed}
use Rattle.ranks.specs.Rank.{top}
use Rattle.ranks.specs.Members.{Rising}
use Rattle.ranks.proofs.Members.{rest-rising}
use Rattle.ring_points.specs.Points.{Fits32}
use Rattle.ring_points.specs.Listed.{Listed, all_hold, all-unique}
use Rattle.cuts.specs.Digits.{span}
use Rattle.walk_list.proofs.lemmas.Full.{listed-fits}
use Rattle.tray_list.specs.declared.Tray.{Tray}
use Rattle.tray_list.specs.Tray.{job_at, size, any_at, full}
use Rattle.tray_list.proofs.Bits.{some_of, some_one}
use Rattle.tray_list.specs.lemmas.Full.{listed_under}

pub listed-by_fits : (t : Tray) (v : Point) → listed_under t v ≡ true → Fits32 v
listed-by_fits t v e = let i = some_one (size t) (λ j. listed (job_at t j) v) e in listed-fits (job_at t i.0) v i.2

pub by_one : (t : Tray) (v : Point) → (listed_under t v ≡ true) ↔ ((j : ℕ) × (j < size t) × (listed (job_at t j) v ≡ true))
by_one t v = ((λ e. some_one (size t) (λ j. listed (job_at t j) v) e), (λ i. some_of (size t) i.0 (λ j. listed (job_at t j) v) i.1 i.2))

pub full-holds : (t : Tray) (v : Point) → (listed_under t v ≡ true) ↔ Listed (full t) v
unfolding full
full-holds t = all_hold (listed_under t) (listed-by_fits t)

pub full-rising : (t : Tray) → Rising 0 (full t)
unfolding full
full-rising t = rest-rising (any_at t) (top span) 0

pub full-unique : (t : Tray) (l : List ℕ) → Rising 0 l → ((v : Point) → (listed_under t v ≡ true) ↔ Listed l v) → l ≡ full t
unfolding full
full-unique t = all-unique (listed_under t) (listed-by_fits t)
