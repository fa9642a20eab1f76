-- Lists of ranks that pass a test, in rising order, are lists of points in point order, each once: SPEC, "Walk".
use Rattle.std.specs.Prelude.{◌≡◌, refl, Bool, true, ℕ, zero, suc, ◌<◌, take}
use mathlib.Core.List.{List, [], ◌∷◌, ◌++◌, map, Memᴰ}
use Rattle.std.proofs.Common.{arith}
use Rattle.ring.specs.declared.Point.{Point}
use Rattle.ranks.specs.Rest.{rest}
use Rattle.ranks.specs.Members.{Rising}
use Rattle.ranks.proofs.Members.{rest-sound}
use Rattle.ring_points.specs.Points.{Fits32, point_of, rank-point, PointBefore, point-order}

-- point order: a first, then b, c, d, as signed numbers: each point comes before all that follow it, so none comes twice
abbrev pub BeforeAll : Point → List Point → Type 0
BeforeAll v [] = Unit {0}
BeforeAll v (w ∷ l) = PointBefore v w × BeforeAll v l

abbrev pub Ascending : List Point → Type 0
Ascending [] = Unit {0}
Ascending (v ∷ l) = BeforeAll v l × Ascending l

-- ---- ranks that all pass a test
abbrev pub Passing : (ℕ → Bool) → List ℕ → Type 0
Passing t [] = Unit {0}
Passing t (r ∷ l) = (t r ≡ true) × Passing t l

module _ (t : ℕ → Bool) where
  pub passing : (l : List ℕ) → ((r : ℕ) → Memᴰ r l → t r ≡ true) → Passing t l
  passing [] h = tt
  passing (r ∷ l) h = (h r (Memᴰ.head refl), passing l (λ q m. h q (Memᴰ.tail m)))

  pub passing-take : (n : ℕ) (l : List ℕ) → Passing t l → Passing t (take n l)
  passing-take zero l h = tt
  passing-take (suc n) [] h = tt
  passing-take (suc n) (r ∷ l) h = (h.0, passing-take n l h.1)

  pub passing-append : (l m : List ℕ) → Passing t l → Passing t m → Passing t (l ++ m)
  passing-append [] m p q = q
  passing-append (r ∷ l) m p q = (p.0, passing-append l m p.1 q)

  pub rest-passing : (n top p : ℕ) → Passing t (take n (rest t top p))
  rest-passing n top p = passing-take n _ (passing _ (λ r m. (rest-sound t top p r m).2))

-- ---- where only points of four signed 32-bit numbers pass
module _ (t : Point → Bool) (fits : (v : Point) → t v ≡ true → Fits32 v) where
  before-all : (r lo : ℕ) (l : List ℕ) → t (point_of r) ≡ true → r < lo → Rising lo l → Passing (λ q. t (point_of q)) l → BeforeAll (point_of r) (map point_of l)
  before-all r lo [] p h up s = tt
  before-all r lo (q ∷ l) p h up s =
      let less : r < q = omega arith in
      ((point-order (point_of r) (point_of q) (fits (point_of r) p) (fits (point_of q) s.0)).1 (rw (rank-point r, rank-point q) less), before-all r (suc q) l p (omega arith) up.1 s.1)

  pub ascending : (lo : ℕ) (l : List ℕ) → Rising lo l → Passing (λ q. t (point_of q)) l → Ascending (map point_of l)
  ascending lo [] up s = tt
  ascending lo (r ∷ l) up s = (before-all r (suc r) l s.0 (omega arith) up.1 s.1, ascending (suc r) l up.1 s.1)
