-- The list holds every w that solves, of any integers, and nothing else, in point order, each once. What is left after a place is what comes strictly after it.
use Rattle.std.specs.Prelude.{◌≡◌, true, false, List, [], ◌↔◌, ℕ, suc, ◌≤◌, pos, Option, Some, None}
use Rattle.std.proofs.Math.Path.{refl}
use Rattle.ring.specs.declared.Point.{Point}
use Rattle.ring.specs.RootTwo.{◌⊞◌, ◌⊠◌, num}
use Rattle.ring.specs.RootTwo.Power.{√2^}
use Rattle.ranks.specs.Rank.{top}
use Rattle.ranks.specs.Members.{Rising}
use Rattle.ranks.proofs.Members.{rest-rising}
use Rattle.ring_points.specs.Digits.{span}
use Rattle.ring_points.specs.Points.{Fits32, point_of, rank_of, PointBefore, point-order}
use Rattle.ring_points.specs.Listed.{Listed, passing-holds, all_hold, all-unique, all-empty}
use Rattle.entry_equation.specs.Equation.{completes, top_scale}
use Rattle.entry_equation.specs.lemmas.Tests.{is_false}
use Rattle.entry_equation.specs.Size.{Within, half, within-bound, solution_within, given-within}
use Rattle.entry_equation.specs.Meaning.{twice|◌|², unit-length}
pub use Rattle.entry_candidates.specs.Want.{within-fits}
use Rattle.entry.specs.Entry.{full, left, start_of}

module _ (k : ℕ) (ok : k ≤ top_scale) (v : Point) where
  pub solution_fits : (w : Point) → completes k v w ≡ true → Fits32 w
  solution_fits w e = within-fits w (within-bound k ok w (solution_within k v w e))

  -- a point of any integers solves if and only if it is listed
  pub full-holds : (w : Point) → (completes k v w ≡ true) ↔ Listed (full k v) w
  unfolding full
  full-holds = all_hold (completes k v) solution_fits

  -- a point is listed if and only if |u|² + |t|² = 1
  pub full-means : (w : Point) → (twice| v |² ⊞ twice| w |² ≡ num (pos 2) ⊠ (√2^ k ⊠ √2^ k)) ↔ Listed (full k v) w
  full-means w = ((λ e. (full-holds w).0 ((unit-length k v w).1 e)), λ h. (unit-length k v w).0 ((full-holds w).1 h))

  pub full-rising : Rising 0 (full k v)
  unfolding full
  full-rising = rest-rising (λ r. completes k v (point_of r)) (top span) 0

  -- no other list does so
  pub full-unique : (l : List ℕ) → Rising 0 l → ((w : Point) → (completes k v w ≡ true) ↔ Listed l w) → l ≡ full k v
  unfolding full
  full-unique = all-unique (completes k v) solution_fits

  -- what is left after a place: the solutions strictly after it
  pub left-beginning : left k v None ≡ full k v
  unfolding left full
  left-beginning = refl

  pub left_after : (p : Point) → Fits32 p → (w : Point) → ((completes k v w ≡ true) × PointBefore p w) ↔ Listed (left k v (Some p)) w
  unfolding left
  left_after p f w =
      let from = passing-holds (completes k v) solution_fits (suc (rank_of p)) w in (
        (λ h. from.0 (h.0, (point-order p w f (solution_fits w h.0)).0 h.1)),
        λ h. let b = from.1 h in (b.0, (point-order p w f (solution_fits w b.0)).1 b.1),
      )

  pub left_rising : (p : Option Point) → Rising (start_of p) (left k v p)
  unfolding left
  left_rising p = rest-rising (λ r. completes k v (point_of r)) (top span) (start_of p)

  -- nothing is listed just where nothing solves, and so where a coordinate of v is above 2^⌈k/2⌉ (`Disk`: where |u| or |u•| is above 1)
  pub full-empty : (full k v ≡ []) ↔ ((w : Point) → completes k v w ≡ false)
  unfolding full
  full-empty = all-empty (completes k v) solution_fits

  pub too_large : (Within (half k) v → ⊥) → full k v ≡ []
  too_large h = full-empty.1 (λ w. is_false _ (λ e. h (given-within k v w e)))
