-- The counts of points read from a slice, one after another.
-- Assumes nothing.
use Rattle.std.specs.Prelude.{◌≡◌, refl, true, List, [], ◌∷◌, ◌++◌, ℕ, ◌+◌, ◌-◌, ◌*◌, ◌≤◌, ◌<◌, ℤ, length, take, get_or, set, replicate}
use Rattle.std.proofs.Common.{sym, ap, ap₂, ◌∙◌, add-one, arith}
use Rattle.ring.specs.declared.Point.{Point}
use Rattle.ring.specs.Point.Exponent.{exponent_of}
use Rattle.ring_points.specs.Slices.{points_of, point_ranked, points-next, points-count}
use Rattle.session_tally.specs.Spread.{number, places, spread}
use Rattle.session_tally.specs.Odd.{odd, odd-exponent}
use Rattle.session_tally.specs.lemmas.Places.{plus_at, plus-set, plus-past, plus-nothing, plus-twice, plus-swap, plus-most, plus-here, plus-length, places-length, places-at, number-most, spread-more}

-- ---- the counts of the first i points
abbrev pub first_spread : ℕ → List ℤ → ℕ → List ℕ
first_spread k l i = spread k (points_of (take (4 * i) l))

none-counted : (k : ℕ) (l : List ℤ) → replicate 21 0 ≡ first_spread k l 0
unfolding number places
none-counted k l = refl

pub count_none : (k : ℕ) (l : List ℤ) → plus_at (replicate 21 0) k (0 - 0) ≡ first_spread k l 0
count_none k l = plus-nothing (replicate 21 0) k ∙ none-counted k l

-- counts of those that √2 divides, of which there are `even` among the first i; the others have the exponent k
module _ (k : ℕ) (l : List ℤ) (i even : ℕ) (counts : List ℕ) (few : even ≤ i) (is : plus_at counts k (i - even) ≡ first_spread k l i) (o : 4 * i ≤ length l) where
  -- a count is at most i
  at_most : (e : ℕ) → e < 21 → get_or (plus_at counts k (i - even)) e 0 ≤ i
  at_most e h =
      let ps = points_of (take (4 * i) l) in
      let n = number-most k e ps in
      let c = points-count l i o in
      let q : get_or (plus_at counts k (i - even)) e 0 ≡ number k (0 + e) ps = ap (λ (t : List ℕ). get_or t e 0) is ∙ places-at (λ j. number k j ps) 21 0 e h in
      let z : 0 + e ≡ e = omega arith in
      let r = rw z at q in
      omega arith

  pub count_most : (e : ℕ) → e < 21 → get_or counts e 0 ≤ i
  count_most e h = let a = at_most e h in let b = plus-most counts k (i - even) e in omega arith

  count_long : length counts ≡ 21
  count_long = sym (plus-length counts k (i - even)) ∙ ap length is ∙ places-length (λ e. number k e (points_of (take (4 * i) l))) 21 0

  -- with the others
  pub full-most : k < 21 → get_or counts k 0 + (i - even) ≤ i
  full-most h = let c = count_long in let a = at_most k h in let b = plus-here counts k (i - even) (omega arith) in omega arith

  pub count-full : set counts k (get_or counts k 0 + (i - even)) ≡ first_spread k l i
  count-full = plus-set counts k (i - even) ∙ is

  pub count-over : 21 ≤ k → counts ≡ first_spread k l i
  count-over h = let c = count_long in sym (plus-past counts k (i - even) (omega arith)) ∙ is

  module _ (v : Point) (there : 4 * i + 4 ≤ length l) (at : v ≡ point_ranked l i) where
    next-spread : plus_at (first_spread k l i) (exponent_of k v) 1 ≡ first_spread k l (i + 1)
    next-spread =
        spread-more k (points_of (take (4 * i) l)) v
        ∙ ap (spread k) (ap (λ (w : Point). points_of (take (4 * i) l) ++ (w ∷ [])) at ∙ sym (points-next l i there) ∙ ap (λ (n : ℕ). points_of (take (4 * n) l)) (sym (add-one i)))

    -- √2 does not divide the next point
    pub odd-next : odd v ≡ true → plus_at counts k (i + 1 - even) ≡ first_spread k l (i + 1)
    odd-next h =
        let e : i + 1 - even ≡ i - even + 1 = omega arith in
        ap (plus_at counts k) e ∙ sym (plus-twice counts k (i - even) 1) ∙ ap₂ (λ (t : List ℕ) (n : ℕ). plus_at t n 1) is (sym (odd-exponent k v h)) ∙ next-spread

    -- it does, and the point is counted
    pub even-next : (e : ℕ) → e ≡ exponent_of k v → plus_at (set counts e (get_or counts e 0 + 1)) k (i + 1 - (even + 1)) ≡ first_spread k l (i + 1)
    even-next e q =
        let m : i + 1 - (even + 1) ≡ i - even = omega arith in
        ap₂ (λ (t : List ℕ) (n : ℕ). plus_at t k n) (plus-set counts e 1) m ∙ plus-swap counts e 1 k (i - even) ∙ ap₂ (λ (t : List ℕ) (n : ℕ). plus_at t n 1) is q ∙ next-spread

    -- or has a larger exponent than 20
    pub past_next : (e : ℕ) → e ≡ exponent_of k v → 21 ≤ e → plus_at counts k (i + 1 - (even + 1)) ≡ first_spread k l (i + 1)
    past_next e q h =
        let m : i + 1 - (even + 1) ≡ i - even = omega arith in
        let c : length (first_spread k l i) ≡ 21 = places-length (λ j. number k j (points_of (take (4 * i) l))) 21 0 in
        ap (plus_at counts k) m ∙ is ∙ sym (plus-past (first_spread k l i) (exponent_of k v) 1 (omega arith)) ∙ next-spread
