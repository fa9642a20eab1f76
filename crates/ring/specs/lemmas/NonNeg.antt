-- p + q√2 ≥ 0 in integers, by cases: the sum and the product of two that are not negative are not negative.
use Rattle.std.specs.Prelude.{refl, ◌⊎◌, [], ◌∷◌, ℤ, pos, neg_ℤ, ◌+ℤ◌, ◌-ℤ◌, ◌*ℤ◌}
use Rattle.std.proofs.Common.{subst₂, inl, inr, arith}
use Rattle.std.proofs.Math.IntN.{+ℤ_comm}
use Rattle.integers.specs.Difference.{by⊖, zz, ◌≼◌, ◌≺◌}
use Rattle.integers.specs.lemmas.RingZ.{polyZ, by_ring, norm_mul}
use Rattle.integers.specs.lemmas.Order.{≺→≼, ≼→nn, nn→≼, nn_neg, nn-+, nn-*, nn_sq, neg_sq, total, mul_mono, sq-≼}

abbrev sq : ℤ → ℤ
sq x = x *ℤ x

abbrev two_sq : ℤ → ℤ
two_sq x = pos 2 *ℤ (x *ℤ x)

-- either p is at least |q|√2, or q√2 is at least |p|
pub data NonNeg (p q : ℤ) : Type 0 where
  big : pos 0 ≼ p → pos 2 *ℤ (q *ℤ q) ≼ p *ℤ p → NonNeg p q
  root : pos 0 ≼ q → p *ℤ p ≼ pos 2 *ℤ (q *ℤ q) → NonNeg p q

pub NonNeg-pos : (p q : ℤ) → pos 0 ≼ p → pos 0 ≼ q → NonNeg p q
NonNeg-pos p q a b = elim (total (two_sq q) (sq p)) [ inl c ↦ big a c | inr c ↦ root b (≺→≼ (sq p) (two_sq q) c) ]

two_nn : (q : ℤ) → pos 0 ≼ two_sq q
two_nn q = nn-* (pos 2) (sq q) (record { le = tt }) (nn_sq q)

neg_lt : (p : ℤ) → p ≺ pos 0 → pos 0 ≼ neg_ℤ p
neg_lt p h = nn_neg p (≺→≼ p (pos 0) h)

-- ---- the cross term: both big, 2 q r ≤ p s; both root, p s ≤ 2 q r
cross-big : (p q s r : ℤ) → pos 0 ≼ p → two_sq q ≼ sq p → pos 0 ≼ s → two_sq r ≼ sq s → pos 2 *ℤ (q *ℤ r) ≼ p *ℤ s
cross-big p q s r hp h hs k =
    sq-≼ (pos 2 *ℤ (q *ℤ r)) (p *ℤ s) (nn-* p s hp hs)
    (subst₂ ◌≼◌ (by_ring (q ∷ r ∷ []) (search polyZ depth 20) refl) (by_ring (p ∷ s ∷ []) (search polyZ depth 20) refl)
    (mul_mono (two_sq q) (sq p) (two_sq r) (sq s) (two_nn q) h (two_nn r) k))

cross-root : (p q s r : ℤ) → pos 0 ≼ q → sq p ≼ two_sq q → pos 0 ≼ r → sq s ≼ two_sq r → p *ℤ s ≼ pos 2 *ℤ (q *ℤ r)
cross-root p q s r hq h hr k =
    sq-≼ (p *ℤ s) (pos 2 *ℤ (q *ℤ r)) (nn-* (pos 2) (q *ℤ r) (record { le = tt }) (nn-* q r hq hr))
    (subst₂ ◌≼◌ (by_ring (p ∷ s ∷ []) (search polyZ depth 20) refl) (by_ring (q ∷ r ∷ []) (search polyZ depth 20) refl)
    (mul_mono (sq p) (two_sq q) (sq s) (two_sq r) (nn_sq p) h (nn_sq s) k))

-- ---- sums
sum-big : (p q s r : ℤ) → two_sq q ≼ sq p → two_sq r ≼ sq s → pos 2 *ℤ (q *ℤ r) ≼ p *ℤ s → two_sq (q +ℤ r) ≼ sq (p +ℤ s)
sum-big = by⊖ _ λ p p'. by⊖ _ λ q q'. by⊖ _ λ s s'. by⊖ _ λ r r'. simp zz (omega arith)

sum-root : (p q s r : ℤ) → sq p ≼ two_sq q → sq s ≼ two_sq r → p *ℤ s ≼ pos 2 *ℤ (q *ℤ r) → sq (p +ℤ s) ≼ two_sq (q +ℤ r)
sum-root = by⊖ _ λ p p'. by⊖ _ λ q q'. by⊖ _ λ s s'. by⊖ _ λ r r'. simp zz (omega arith)

-- a big one, (p, q), and a root, (s, r): three of the four cases of the signs of P = p + s and Q = q + r cannot go wrong
no_right : (p q s r : ℤ) → two_sq q ≼ sq p → sq s ≼ two_sq r → sq (p +ℤ s) ≺ two_sq (q +ℤ r) → neg_ℤ s *ℤ (p +ℤ s) ≼ pos 2 *ℤ (r *ℤ neg_ℤ (q +ℤ r)) → ⊥
no_right = by⊖ _ λ p p'. by⊖ _ λ q q'. by⊖ _ λ s s'. by⊖ _ λ r r'. simp zz (omega arith)

no_left : (p q s r : ℤ) → two_sq q ≼ sq p → sq s ≼ two_sq r → two_sq (q +ℤ r) ≺ sq (p +ℤ s) → pos 2 *ℤ (neg_ℤ q *ℤ (q +ℤ r)) ≼ p *ℤ neg_ℤ (p +ℤ s) → ⊥
no_left = by⊖ _ λ p p'. by⊖ _ λ q q'. by⊖ _ λ s s'. by⊖ _ λ r r'. simp zz (omega arith)

no_both : (p q s r : ℤ) → two_sq q ≼ sq p → sq s ≼ two_sq r → p +ℤ s ≺ pos 0 → pos 0 ≼ p *ℤ neg_ℤ (p +ℤ s)
    → pos 0 ≼ (neg_ℤ (p +ℤ s) -ℤ pos 1) *ℤ neg_ℤ (p +ℤ s) → pos 0 ≼ r *ℤ neg_ℤ (q +ℤ r) → pos 0 ≼ sq (q +ℤ r) → ⊥
no_both = by⊖ _ λ p p'. by⊖ _ λ q q'. by⊖ _ λ s s'. by⊖ _ λ r r'. simp zz (omega arith)

below : (p : ℤ) → p ≺ pos 0 → pos 0 ≼ neg_ℤ p -ℤ pos 1
below = by⊖ _ λ p p'. simp zz (omega arith)

sum-mixed : (p q s r : ℤ) → pos 0 ≼ p → two_sq q ≼ sq p → pos 0 ≼ r → sq s ≼ two_sq r → NonNeg (p +ℤ s) (q +ℤ r)
sum-mixed p q s r hp h hr k = go (total (pos 0) (p +ℤ s)) (total (pos 0) (q +ℤ r))
  where
    go : (pos 0 ≼ p +ℤ s) ⊎ (p +ℤ s ≺ pos 0) → (pos 0 ≼ q +ℤ r) ⊎ (q +ℤ r ≺ pos 0) → NonNeg (p +ℤ s) (q +ℤ r)
    go (inl a) (inl b) = NonNeg-pos (p +ℤ s) (q +ℤ r) a b
    go (inl a) (inr b) = elim (total (two_sq (q +ℤ r)) (sq (p +ℤ s))) [
      | inl c ↦ big a c
      | inr c ↦ absurd (no_right p q s r h k c
          (cross-root (neg_ℤ s) r (p +ℤ s) (neg_ℤ (q +ℤ r)) hr (rw (neg_sq s) k) (neg_lt (q +ℤ r) b) (rw (neg_sq (q +ℤ r)) (≺→≼ (sq (p +ℤ s)) (two_sq (q +ℤ r)) c))))
    ]
    go (inr a) (inl b) = elim (total (sq (p +ℤ s)) (two_sq (q +ℤ r))) [
      | inl c ↦ root b c
      | inr c ↦ absurd (no_left p q s r h k c
          (cross-big p (neg_ℤ q) (neg_ℤ (p +ℤ s)) (q +ℤ r) hp (rw (neg_sq q) h) (neg_lt (p +ℤ s) a) (rw (neg_sq (p +ℤ s)) (≺→≼ (two_sq (q +ℤ r)) (sq (p +ℤ s)) c))))
    ]
    go (inr a) (inr b) =
        absurd (no_both p q s r h k a (nn-* p (neg_ℤ (p +ℤ s)) hp (neg_lt (p +ℤ s) a))
        (nn-* (neg_ℤ (p +ℤ s) -ℤ pos 1) (neg_ℤ (p +ℤ s)) (below (p +ℤ s) a) (neg_lt (p +ℤ s) a)) (nn-* r (neg_ℤ (q +ℤ r)) hr (neg_lt (q +ℤ r) b)) (nn_sq (q +ℤ r)))

pub NonNeg-+ : (p q s r : ℤ) → NonNeg p q → NonNeg s r → NonNeg (p +ℤ s) (q +ℤ r)
NonNeg-+ p q s r (big a h) (big b k) = big (nn-+ p s a b) (sum-big p q s r h k (cross-big p q s r a h b k))
NonNeg-+ p q s r (big a h) (root b k) = sum-mixed p q s r a h b k
NonNeg-+ p q s r (root a h) (big b k) = rw (+ℤ_comm p s, +ℤ_comm q r) (sum-mixed s r p q b k a h)
NonNeg-+ p q s r (root a h) (root b k) = root (nn-+ q r a b) (sum-root p q s r h k (cross-root p q s r a h b k))

-- ---- products: the norm p² − 2q² is multiplicative
first-big : (p q s r : ℤ) → pos 2 *ℤ (q *ℤ neg_ℤ r) ≼ p *ℤ s → pos 0 ≼ p *ℤ s +ℤ pos 2 *ℤ (q *ℤ r)
first-big = by⊖ _ λ p p'. by⊖ _ λ q q'. by⊖ _ λ s s'. by⊖ _ λ r r'. simp zz (omega arith)

first-root : (p q s r : ℤ) → p *ℤ neg_ℤ s ≼ pos 2 *ℤ (q *ℤ r) → pos 0 ≼ p *ℤ s +ℤ pos 2 *ℤ (q *ℤ r)
first-root = by⊖ _ λ p p'. by⊖ _ λ q q'. by⊖ _ λ s s'. by⊖ _ λ r r'. simp zz (omega arith)

product-big : (p q s r : ℤ) → pos 0 ≼ p → two_sq q ≼ sq p → pos 0 ≼ s → two_sq r ≼ sq s → NonNeg (p *ℤ s +ℤ pos 2 *ℤ (q *ℤ r)) (p *ℤ r +ℤ q *ℤ s)
product-big p q s r a h b k =
    big (first-big p q s r (cross-big p q s (neg_ℤ r) a h b (rw (neg_sq r) k)))
    (nn→≼ _ _ (rw (← norm_mul p q s r) (nn-* _ _ (≼→nn _ _ h) (≼→nn _ _ k))))

product-root : (p q s r : ℤ) → pos 0 ≼ q → sq p ≼ two_sq q → pos 0 ≼ r → sq s ≼ two_sq r → NonNeg (p *ℤ s +ℤ pos 2 *ℤ (q *ℤ r)) (p *ℤ r +ℤ q *ℤ s)
product-root p q s r a h b k =
    big (first-root p q s r (cross-root p q (neg_ℤ s) r a h b (rw (neg_sq s) k)))
    (nn→≼ _ _ (subst₂ ◌≼◌ refl (by_ring (p ∷ q ∷ s ∷ r ∷ []) (search polyZ depth 30) refl) (nn-* _ _ (≼→nn _ _ h) (≼→nn _ _ k))))

-- p r ≥ |q s|, so the second part is not negative
product-mixed : (p q s r : ℤ) → pos 0 ≼ p → two_sq q ≼ sq p → pos 0 ≼ r → sq s ≼ two_sq r → NonNeg (p *ℤ s +ℤ pos 2 *ℤ (q *ℤ r)) (p *ℤ r +ℤ q *ℤ s)
product-mixed p q s r a h b k =
    root (second p q s r (sq-≼ (neg_ℤ (q *ℤ s)) (p *ℤ r) (nn-* p r a b) (half q s p r (mul_mono _ _ _ _ (two_nn q) h (nn_sq s) k))))
    (nn→≼ _ _ (subst₂ ◌≼◌ refl (by_ring (p ∷ q ∷ s ∷ r ∷ []) (search polyZ depth 30) refl) (nn-* _ _ (≼→nn _ _ h) (≼→nn _ _ k))))
  where
    second : (p q s r : ℤ) → neg_ℤ (q *ℤ s) ≼ p *ℤ r → pos 0 ≼ p *ℤ r +ℤ q *ℤ s
    second = by⊖ _ λ p p'. by⊖ _ λ q q'. by⊖ _ λ s s'. by⊖ _ λ r r'. simp zz (omega arith)

    halve : (x y : ℤ) → pos 2 *ℤ x ≼ pos 2 *ℤ y → x ≼ y
    halve = by⊖ _ λ x x'. by⊖ _ λ y y'. simp zz (omega arith)

    half : (q s p r : ℤ) → two_sq q *ℤ sq s ≼ sq p *ℤ two_sq r → sq (neg_ℤ (q *ℤ s)) ≼ sq (p *ℤ r)
    half q s p r h =
        halve (sq (neg_ℤ (q *ℤ s))) (sq (p *ℤ r))
        (subst₂ ◌≼◌ (by_ring (q ∷ s ∷ []) (search polyZ depth 20) refl) (by_ring (p ∷ r ∷ []) (search polyZ depth 20) refl) h)

pub NonNeg-* : (p q s r : ℤ) → NonNeg p q → NonNeg s r → NonNeg (p *ℤ s +ℤ pos 2 *ℤ (q *ℤ r)) (p *ℤ r +ℤ q *ℤ s)
NonNeg-* p q s r (big a h) (big b k) = product-big p q s r a h b k
NonNeg-* p q s r (big a h) (root b k) = product-mixed p q s r a h b k
NonNeg-* p q s r (root a h) (big b k) = subst₂ NonNeg (by_ring (p ∷ q ∷ s ∷ r ∷ []) (search polyZ depth 20) refl) (by_ring (p ∷ q ∷ s ∷ r ∷ []) (search polyZ depth 20) refl) (product-mixed s r p q b k a h)
NonNeg-* p q s r (root a h) (root b k) = product-root p q s r a h b k

-- ---- one of p + q√2 and its opposite
pub NonNeg-total : (p q : ℤ) → NonNeg p q ⊎ NonNeg (neg_ℤ p) (neg_ℤ q)
NonNeg-total p q = go (total (pos 0) p) (total (pos 0) q)
  where
    go : (pos 0 ≼ p) ⊎ (p ≺ pos 0) → (pos 0 ≼ q) ⊎ (q ≺ pos 0) → NonNeg p q ⊎ NonNeg (neg_ℤ p) (neg_ℤ q)
    go (inl a) (inl b) = inl (NonNeg-pos p q a b)
    go (inr a) (inr b) = inr (NonNeg-pos (neg_ℤ p) (neg_ℤ q) (neg_lt p a) (neg_lt q b))
    go (inl a) (inr b) = elim (total (two_sq q) (sq p)) [ inl c ↦ inl (big a c) | inr c ↦ inr (root (neg_lt q b) (rw (neg_sq p, neg_sq q) (≺→≼ _ _ c))) ]
    go (inr a) (inl b) = elim (total (sq p) (two_sq q)) [ inl c ↦ inl (root b c) | inr c ↦ inr (big (neg_lt p a) (rw (neg_sq p, neg_sq q) (≺→≼ _ _ c))) ]
