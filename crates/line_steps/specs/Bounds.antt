-- Every solution lies within ±10,000, and its a between two whole numbers that a division gives.
use Rattle.std.specs.Prelude.{◌≡◌, true, ℕ, ◌+◌, ◌/◌, ◌≤◌, ℤ, pos, neg_ℤ, ◌+ℤ◌, ◌-ℤ◌, ◌*ℤ◌}
use Rattle.std.proofs.Common.{sym, ◌∙◌, arith, leb→le}
use Rattle.integers.specs.lemmas.Booleans.{both_true}
use Rattle.integers.specs.Difference.{by⊖, zz, ◌≼◌}
use Rattle.ring.specs.RootTwo.{conj, num, num_parts}
use Rattle.ring.specs.RootTwo.Order.{◌⊑◌}
use Rattle.line_rows.specs.declared.Band.{Band}
use Rattle.line_rows.specs.Row.{at, above, below, lower, upper}
use Rattle.line_steps.specs.declared.Interval.{Interval}
use Rattle.line_steps.specs.Line.{accepted, solves, bound, coordinate}
use Rattle.line_steps.specs.Strips.{strip_of, solves-row, Ranged, both-ranged}
use Rattle.line_steps.specs.Ends.{floor_of, ceiling_of, floor-from, ceiling_to}
use Rattle.line_steps.specs.lemmas.Whole.{above-whole, below-whole, sum-from, sum_to, root-to, root-from}

-- ---- a and b within ±k
pub record Within (k a b : ℤ) : Type 0 where
  pub a-from : neg_ℤ k ≼ a
  pub a-to : a ≼ k
  pub b-from : neg_ℤ k ≼ b
  pub b-to : b ≼ k

half : (k a : ℤ) → a +ℤ a ≼ k +ℤ k → a ≼ k
half = by⊖ _ λ p p'. by⊖ _ λ q q'. simp zz (omega arith)

scaled-from : (m l : ℤ) → pos 1 ≼ m → neg_ℤ (pos bound) ≼ l → m *ℤ neg_ℤ (pos bound) ≼ l
scaled-from = by⊖ _ λ p p'. by⊖ _ λ q q'. simp zz (omega arith)

scaled-to : (m l : ℤ) → pos 1 ≼ m → l ≼ pos bound → l ≼ m *ℤ pos bound
scaled-to = by⊖ _ λ p p'. by⊖ _ λ q q'. simp zz (omega arith)

-- ---- the first row and the last one
abbrev pub first_row : Band → Band → ℕ
first_row s t = (floor_of s.m s.lo.p + floor_of t.m t.lo.p) / 2

abbrev pub last_row : Band → Band → ℕ
last_row s t = (ceiling_of s.m s.hi.p + ceiling_of t.m t.hi.p) / 2

-- w + v ≤ 2x in digits is the same in coordinates
digits-≼ : (w v x : ℕ) → coordinate w +ℤ coordinate v ≼ coordinate x +ℤ coordinate x → w + v ≤ x + x
digits-≼ w v x h = leb→le (w + v) (x + x) (go (pos w) (pos v) (pos x) h).le
  where
    go : (w v x : ℤ) → w -ℤ pos bound +ℤ (v -ℤ pos bound) ≼ x -ℤ pos bound +ℤ (x -ℤ pos bound) → w +ℤ v ≼ x +ℤ x
    go = by⊖ _ λ p p'. by⊖ _ λ q q'. by⊖ _ λ r r'. simp zz (omega arith)

digits-≽ : (w v x : ℕ) → coordinate x +ℤ coordinate x ≼ coordinate w +ℤ coordinate v → x + x ≤ w + v
digits-≽ w v x h = leb→le (x + x) (w + v) (go (pos w) (pos v) (pos x) h).le
  where
    go : (w v x : ℤ) → x -ℤ pos bound +ℤ (x -ℤ pos bound) ≼ w -ℤ pos bound +ℤ (v -ℤ pos bound) → x +ℤ x ≼ w +ℤ v
    go = by⊖ _ λ p p'. by⊖ _ λ q q'. by⊖ _ λ r r'. simp zz (omega arith)

module _ (i j : Interval) (ok : accepted i j ≡ true) where
  abbrev first : Ranged (strip_of i)
  first = (both-ranged i j ok).0

  abbrev second : Ranged (strip_of j)
  second = (both-ranged i j ok).1

  -- the four bounds of a solution
  module _ (a b : ℤ) (solved : solves i j a b ≡ true) where
    abbrev bounds : (lower (strip_of i) (strip_of j) a b ≡ true) × (upper (strip_of i) (strip_of j) a b ≡ true)
    bounds = both_true (lower (strip_of i) (strip_of j) a b) (upper (strip_of i) (strip_of j) a b) (sym (solves-row i j a b) ∙ solved)

    abbrev lows : (above (strip_of i) (at a b) ≡ true) × (below (strip_of j) (conj (at a b)) ≡ true)
    lows = both_true _ _ bounds.0

    abbrev highs : (above (strip_of j) (conj (at a b)) ≡ true) × (below (strip_of i) (at a b) ≡ true)
    highs = both_true _ _ bounds.1

    module _ (k l : ℤ) where
      from-lows : i.n *ℤ k ≼ i.lo → j.n *ℤ l ≼ j.lo → (num k ⊑ at a b) × (num l ⊑ conj (at a b))
      from-lows f g = (above-whole (strip_of i) k i.lo first.one (sym (num_parts i.lo)) f (at a b) lows.0, above-whole (strip_of j) l j.lo second.one (sym (num_parts j.lo)) g (conj (at a b)) highs.0)

      from-highs : i.hi ≼ i.n *ℤ k → j.hi ≼ j.n *ℤ l → (at a b ⊑ num k) × (conj (at a b) ⊑ num l)
      from-highs f g = (below-whole (strip_of i) k i.hi first.one (sym (num_parts i.hi)) f (at a b) highs.1, below-whole (strip_of j) l j.hi second.one (sym (num_parts j.hi)) g (conj (at a b)) lows.1)

    -- z and z• within ±k: a and b within ±k
    pub solution_in : (k : ℤ) → pos 0 ≼ k → i.n *ℤ neg_ℤ k ≼ i.lo → j.n *ℤ neg_ℤ k ≼ j.lo → i.hi ≼ i.n *ℤ k → j.hi ≼ j.n *ℤ k → Within k a b
    solution_in k nn l₁ l₂ h₁ h₂ =
        let l = from-lows (neg_ℤ k) (neg_ℤ k) l₁ l₂ in
        let h = from-highs k k h₁ h₂ in
        record {
          a-from = half a (neg_ℤ k) (sum-from (neg_ℤ k) (neg_ℤ k) a b l.0 l.1);
          a-to = half k a (sum_to k k a b h.0 h.1);
          b-from = root-from k a b nn l.0 h.1;
          b-to = root-to k a b nn h.0 l.1;
        }

    -- every solution lies within ±10,000
    pub solution_within : Within (pos bound) a b
    solution_within =
        solution_in (pos bound) (record { le = tt }) (scaled-from i.n i.lo first.one first.lo-from) (scaled-from j.n j.lo second.one second.lo-from)
        (scaled-to i.n i.hi first.one first.hi-to) (scaled-to j.n j.hi second.one second.hi-to)

  -- the digit of a lies from the first row to the last
  pub solution_row : (x : ℕ) (b : ℤ) → solves i j (coordinate x) b ≡ true → (first_row (strip_of i) (strip_of j) ≤ x) × (x ≤ last_row (strip_of i) (strip_of j))
  solution_row x b solved =
      let a = coordinate x in
      let f = floor_of i.n i.lo in
      let g = floor_of j.n j.lo in
      let u = ceiling_of i.n i.hi in
      let v = ceiling_of j.n j.hi in
      let l = from-lows a b solved (coordinate f) (coordinate g) (floor-from i.n i.lo first.one first.lo-from) (floor-from j.n j.lo second.one second.lo-from) in
      let h = from-highs a b solved (coordinate u) (coordinate v) (ceiling_to i.n i.hi first.one first.hi-from) (ceiling_to j.n j.hi second.one second.hi-from) in
      let low = digits-≼ f g x (sum-from (coordinate f) (coordinate g) a b l.0 l.1) in
      let high = digits-≽ u v x (sum_to (coordinate u) (coordinate v) a b h.0 h.1) in
      (omega arith, omega arith)
