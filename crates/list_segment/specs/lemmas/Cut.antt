-- The points at the front of a slice with a up to hi, counted one after another.
use Rattle.std.specs.Prelude.{◌≡◌, refl, Bool, true, false, cond, List, [], ◌∷◌, ℕ, zero, suc, ◌+◌, ◌*◌, ◌≤◌, ◌<◌, ℤ, length, take}
use Rattle.std.proofs.Common.{ap, ◌∙◌, arith, length-append}
use Rattle.std.proofs.Math.Decide.{dec_lt}
use Rattle.std.specs.Int.Signed.{le_z, lt_z}
use Rattle.integers.specs.Difference.{≤→ℕ, <→ℕ}
use Rattle.integers.specs.lemmas.Tests.{lt_z_true, lt_z_false}
use Rattle.ring.specs.declared.Point.{Point}
use Rattle.ring_points.specs.Slices.{points_of, point_ranked, points-next, points-count}
use Rattle.list_segment.specs.Ranks.{true_le, le_true}
use Rattle.list_segment.specs.Leading.{leading, leading-stops, leading-passes}
use Rattle.list_segment.specs.Segment.{up_to}

-- the code's test
pub past : (hi : ℤ) (v : Point) → lt_z hi v.a ≡ true → up_to hi v ≡ false
past hi v e = go (le_z v.a hi) refl
  where
    go : (b : Bool) → le_z v.a hi ≡ b → b ≡ false
    go true f = absurd (let m = <→ℕ hi v.a (lt_z_true hi v.a e) in let n = ≤→ℕ v.a hi (true_le v.a hi f) in omega arith)
    go false f = refl

pub not_past : (hi : ℤ) (v : Point) → lt_z hi v.a ≡ false → up_to hi v ≡ true
not_past hi v e = le_true v.a hi (lt_z_false hi v.a e)

module _ (hi : ℤ) (l : List ℤ) where
  abbrev pub led : ℕ → ℕ
  led n = length (leading (up_to hi) (points_of (take (4 * n) l)))

  module _ (i : ℕ) (room : 4 * i + 4 ≤ length l) (all : led i ≡ i) where
    one : (t : Bool) → up_to hi (point_ranked l i) ≡ t → led (suc i) ≡ i + length (cond t (point_ranked l i ∷ []) [])
    one t e =
        let c = points-count l i (omega arith) in
        rw (points-next l i room) (ap length (leading-passes (up_to hi) (points_of (take (4 * i) l)) (point_ranked l i ∷ []) (omega arith)) ∙ length-append (points_of (take (4 * i) l)) (leading (up_to hi) (point_ranked l i ∷ [])) ∙ rw (c, e) refl)

    pub led-next : up_to hi (point_ranked l i) ≡ true → led (suc i) ≡ suc i
    led-next e = one true e ∙ omega arith

    led-here : up_to hi (point_ranked l i) ≡ false → led (suc i) ≡ i
    led-here e = one false e ∙ omega arith

  -- the first that fails is the end, however many there are behind it
  pub led-stop : (i n : ℕ) → i < n → 4 * n ≤ length l → led i ≡ i → up_to hi (point_ranked l i) ≡ false → led n ≡ i
  led-stop i zero h room all e = absurd (omega arith)
  led-stop i (suc n) h room all e = go (dec_lt i n) (λ k. led-stop i n k (omega arith) all e)
    where
      go : Dec (i < n) → (i < n → led n ≡ i) → led (suc n) ≡ i
      go (yes k) ih =
          let j = ih k in
          let c = points-count l n (omega arith) in
          rw (points-next l n (omega arith)) (ap length (leading-stops (up_to hi) (points_of (take (4 * n) l)) (point_ranked l n ∷ []) (omega arith)) ∙ j)
      go (no k) ih = let s : n ≡ i = omega arith in rw s (led-here i (omega arith) all e)
