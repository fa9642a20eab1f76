-- √2 is irrational: p² = 2q² only where p = q = 0. So p + q√2 and its opposite are both not negative only at 0.
use Rattle.std.specs.Prelude.{◌≡◌, refl, ℕ, zero, suc, ◌+◌, ◌*◌, ◌/◌, ◌%◌, ◌≤◌, ◌<◌, ℤ, pos, negsuc, neg_ℤ, nat_abs, ◌*ℤ◌}
use Rattle.std.proofs.Common.{sym, ◌∙◌, ap, mul-le-mul, arith}
use Rattle.std.proofs.Math.Decide.{dec_le}
use Rattle.integers.specs.Difference.{by⊖, zz, ◌≼◌}
use Rattle.integers.specs.lemmas.Order.{≼-antisym, nn_sq, neg_sq, nn-*}
use Rattle.ring.specs.lemmas.NonNeg.{NonNeg, big, root}

-- ---- by descent over the naturals
small : (p q : ℕ) → p * p ≡ 2 * (q * q) → p ≤ q → q ≡ 0
small p zero e h = refl
small p (suc q) e h = absurd (omega (arith, mul-le-mul h h))

descent : (n p q : ℕ) → p ≤ n → p * p ≡ 2 * (q * q) → q ≡ 0
descent zero p q h e = small p q e (omega arith)
descent (suc n) p q h e = go (p / 2) (p % 2) (omega arith) (omega arith) (λ r k f. descent n q r k f) (dec_le p q)
  where
    even : (r : ℕ) → p ≡ 2 * r → q * q ≡ 2 * (r * r)
    even r f = let g = rw f at e in omega arith

    odd : (r : ℕ) → p ≡ 2 * r + 1 → ⊥
    odd r f = let g = rw f at e in omega arith

    both : (r : ℕ) → p ≡ 2 * r → r ≡ 0 → q ≡ 0
    both r f g = small p q e (omega arith)

    go : (r s : ℕ) → p ≡ 2 * r + s → s < 2 → ((t : ℕ) → q ≤ n → q * q ≡ 2 * (t * t) → t ≡ 0) → Dec (p ≤ q) → q ≡ 0
    go r s f l ih (yes k) = small p q e k
    go r zero f l ih (no k) = both r (omega arith) (ih r (omega arith) (even r (omega arith)))
    go r (suc zero) f l ih (no k) = absurd (odd r (omega arith))
    go r (suc (suc s)) f l ih (no k) = absurd (omega arith)

-- ---- over ℤ
sq-abs : (z : ℤ) → z *ℤ z ≡ pos (nat_abs z * nat_abs z)
sq-abs (pos n) = refl
sq-abs (negsuc n) = refl

pos_inj : (a b : ℕ) → pos a ≡ pos b → a ≡ b
pos_inj a b h = cc

abs_zero : (z : ℤ) → nat_abs z ≡ 0 → z ≡ pos 0
abs_zero (pos n) h = ap pos h
abs_zero (negsuc n) h = absurd (omega arith)

sq-zero : (p : ℕ) → p * p ≡ 0 → p ≡ 0
sq-zero zero h = refl
sq-zero (suc p) h = absurd (omega arith)

pub irrational : (p q : ℤ) → p *ℤ p ≡ pos 2 *ℤ (q *ℤ q) → (p ≡ pos 0) × (q ≡ pos 0)
irrational p q h =
    let e : nat_abs p * nat_abs p ≡ 2 * (nat_abs q * nat_abs q) = pos_inj _ _ (sym (sq-abs p) ∙ h ∙ ap (λ t. pos 2 *ℤ t) (sq-abs q)) in
    let g = descent (nat_abs p) (nat_abs p) (nat_abs q) (omega arith) e in
    (abs_zero p (sq-zero (nat_abs p) (rw g at e)), abs_zero q g)

zero_of : (p : ℤ) → pos 0 ≼ p → pos 0 ≼ neg_ℤ p → p ≡ pos 0
zero_of = by⊖ _ λ p p'. simp zz (omega arith)

-- 2q² ≤ 0 and p² ≤ 0 leave 0
no_root : (q : ℤ) → pos 2 *ℤ (q *ℤ q) ≼ pos 0 *ℤ pos 0 → q ≡ pos 0
no_root q a = (irrational (pos 0) q (≼-antisym _ _ (nn-* (pos 2) (q *ℤ q) (record { le = tt }) (nn_sq q)) a)).1

no_whole : (p : ℤ) → p *ℤ p ≼ pos 2 *ℤ (pos 0 *ℤ pos 0) → p ≡ pos 0
no_whole p a = (irrational p (pos 0) (≼-antisym _ _ a (nn_sq p))).0

pub NonNeg-zero : (p q : ℤ) → NonNeg p q → NonNeg (neg_ℤ p) (neg_ℤ q) → (p ≡ pos 0) × (q ≡ pos 0)
NonNeg-zero p q (big a b) (big c d) = let e = zero_of p a c in (e, no_root q (rw e at b))
NonNeg-zero p q (root a b) (root c d) = let e = zero_of q a c in (no_whole p (rw e at b), e)
NonNeg-zero p q (big a b) (root c d) = irrational p q (≼-antisym _ _ (rw (neg_sq p, neg_sq q) at d) b)
NonNeg-zero p q (root a b) (big c d) = irrational p q (≼-antisym _ _ b (rw (neg_sq p, neg_sq q) at d))

-- q√2 ≥ 0 is q ≥ 0
pub NonNeg-root : (q : ℤ) → NonNeg (pos 0) q → pos 0 ≼ q
NonNeg-root q (big a h) = rw (no_root q h) (record { le = tt })
NonNeg-root q (root a h) = a
