-- A tray's points in a list of numbers, five for each, and a tray of one region.
use Rattle.std.specs.Prelude.{◌≡◌, true, List, [], ◌∷◌, ◌++◌, map, ℕ, pos}
use Rattle.std.proofs.Math.Path.{refl, ap}
use Rattle.std.proofs.Common.{ap₂, ◌∙◌}
use Rattle.ring.specs.declared.Point.{Point}
use Rattle.ranks.specs.Rest.{rest}
use Rattle.ranks.specs.Rank.{top}
use Rattle.ranks.proofs.Members.{rest-sound}
use Rattle.ranks.specs.Handed.{flat}
use Rattle.ring_points.specs.Ascending.{Passing, passing}
use Rattle.cuts.specs.Digits.{span}
use Rattle.walk_list.specs.Walk.{point_of, listed_at}
use Rattle.walk_list.specs.Walk as One
use Rattle.tray_list.specs.declared.Tray.{Tray}
use Rattle.tray_list.specs.Tray.{some, bits, job_at, holds, size, five_of, full}
use Rattle.tray_list.specs.Points.{fives_of, one_of}

pub flat-fives : (t : Tray) (l : List ℕ) → fives_of (flat (five_of t) l) ≡ map point_of l
flat-fives t [] = refl
flat-fives t (r ∷ l) = ap (λ (m : List Point). point_of r ∷ m) (flat-fives t l)

module _ (t : Tray) (e : size t ≡ 1) where
  pub one_list : full t ≡ One.full (job_at t 0)
  unfolding some full One.full
  one_list = ap (λ (n : ℕ). rest (λ r. some n (holds t r)) (top span) 0) e

  one-mask : (r : ℕ) → listed_at (job_at t 0) r ≡ true → bits 1 (holds t r) ≡ 1
  unfolding bits
  one-mask r h = rw h refl

  five-one : (r : ℕ) → listed_at (job_at t 0) r ≡ true → five_of t r ≡ one_of r
  five-one r h = let v = point_of r in ap (λ (m : ℕ). v.a ∷ v.b ∷ v.c ∷ v.d ∷ pos m ∷ []) (ap (λ (n : ℕ). bits n (holds t r)) e ∙ one-mask r h)

  flat-one : (l : List ℕ) → Passing (listed_at (job_at t 0)) l → flat (five_of t) l ≡ flat one_of l
  flat-one [] h = refl
  flat-one (r ∷ l) h = ap₂ ◌++◌ (five-one r h.0) (flat-one l h.1)

  listed-all : Passing (listed_at (job_at t 0)) (One.full (job_at t 0))
  unfolding One.full
  listed-all = passing (listed_at (job_at t 0)) _ (λ r m. (rest-sound (listed_at (job_at t 0)) (top span) 0 r m).2)

  pub one-numbers : flat (five_of t) (full t) ≡ flat one_of (One.full (job_at t 0))
  one-numbers = ap (flat (five_of t)) one_list ∙ flat-one (One.full (job_at t 0)) listed-all
