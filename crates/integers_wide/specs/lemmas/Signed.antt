-- Signed numbers of two words, over any word B: h·B + l.
use Rattle.std.specs.Prelude.{◌≡◌, ℕ, zero, suc, ◌+◌, ◌*◌, ◌^◌, ◌<◌, ◌≤◌, not, ℤ, pos, negsuc, ◌+ℤ◌, ◌-ℤ◌, ◌*ℤ◌, neg_ℤ, unsigned_abs, refl}
use Rattle.std.proofs.Common.{ap, arith}
use Rattle.std.specs.Bool.{beq}
use Rattle.std.proofs.Math.IntN.{+ℤ_idl}
use Rattle.std.specs.Int.Signed.{mag, non_neg}
use Rattle.integers.specs.Difference.{by⊖, zz, up, dn, +-spec, neg_up, neg_dn}
use Rattle.integers_wide.specs.declared.Wide.{Wide}
use Rattle.integers_wide.specs.Meaning.{meaning, Half, turned_if, word}
use Rattle.integers_wide.specs.lemmas.Laws.{upper_lt, size-minus}

-- ---- by sign and size
pub minus_none : (B h : ℕ) → (pos 0 -ℤ pos h) *ℤ pos B +ℤ pos 0 ≡ neg_ℤ (pos (h * B + 0))
minus_none B h = go (pos h)
  where
    go : (z : ℤ) → (pos 0 -ℤ z) *ℤ pos B +ℤ pos 0 ≡ neg_ℤ (z *ℤ pos B +ℤ pos 0)
    go = by⊖ _ λ p n. simp zz (omega arith)

pub minus_borrow : (B h l r : ℕ) → r + l ≡ B → (pos 0 -ℤ pos h -ℤ pos 1) *ℤ pos B +ℤ pos r ≡ neg_ℤ (pos (h * B + l))
minus_borrow B h l r e = rw (← e) (go (pos h))
  where
    go : (z : ℤ) → (pos 0 -ℤ z -ℤ pos 1) *ℤ pos (r + l) +ℤ pos r ≡ neg_ℤ (z *ℤ pos (r + l) +ℤ pos l)
    go = by⊖ _ λ p n. simp zz (omega arith)

pub minus_next : (h : ℕ) → pos 0 -ℤ pos h -ℤ pos 1 ≡ negsuc h
minus_next zero = refl
minus_next (suc h) = rw +ℤ_idl (ap negsuc (omega arith))

pub by_size : (z : ℤ) → turned_if (not (non_neg z)) (pos (unsigned_abs z)) ≡ z
by_size (pos n) = refl
by_size (negsuc n) = refl

-- ---- sums
pub plus-carried : (B lx ly l : ℕ) (hx hy : ℤ) → lx + ly ≡ l + B → (hx +ℤ hy +ℤ pos 1) *ℤ pos B +ℤ pos l ≡ (hx *ℤ pos B +ℤ pos lx) +ℤ (hy *ℤ pos B +ℤ pos ly)
plus-carried B lx ly l hx hy e = go hx hy
  where
    go : (hx hy : ℤ) → (hx +ℤ hy +ℤ pos 1) *ℤ pos B +ℤ pos l ≡ (hx *ℤ pos B +ℤ pos lx) +ℤ (hy *ℤ pos B +ℤ pos ly)
    go = by⊖ _ λ p n. by⊖ _ λ q m. simp zz (omega arith)

pub plus-plain : (B lx ly l : ℕ) (hx hy : ℤ) → lx + ly ≡ l → (hx +ℤ hy) *ℤ pos B +ℤ pos l ≡ (hx *ℤ pos B +ℤ pos lx) +ℤ (hy *ℤ pos B +ℤ pos ly)
plus-plain B lx ly l hx hy e = go hx hy
  where
    go : (hx hy : ℤ) → (hx +ℤ hy) *ℤ pos B +ℤ pos l ≡ (hx *ℤ pos B +ℤ pos lx) +ℤ (hy *ℤ pos B +ℤ pos ly)
    go = by⊖ _ λ p n. by⊖ _ λ q m. simp zz (omega arith)

pub minus_plain : (B lx ly l : ℕ) (hx hy : ℤ) → lx ≡ l + ly → (hx -ℤ hy) *ℤ pos B +ℤ pos l ≡ (hx *ℤ pos B +ℤ pos lx) -ℤ (hy *ℤ pos B +ℤ pos ly)
minus_plain B lx ly l hx hy e = go hx hy
  where
    go : (hx hy : ℤ) → (hx -ℤ hy) *ℤ pos B +ℤ pos l ≡ (hx *ℤ pos B +ℤ pos lx) -ℤ (hy *ℤ pos B +ℤ pos ly)
    go = by⊖ _ λ p n. by⊖ _ λ q m. simp zz (omega arith)

pub minus_borrowed : (B lx ly l : ℕ) (hx hy : ℤ) → l + ly ≡ lx + B → (hx -ℤ hy -ℤ pos 1) *ℤ pos B +ℤ pos l ≡ (hx *ℤ pos B +ℤ pos lx) -ℤ (hy *ℤ pos B +ℤ pos ly)
minus_borrowed B lx ly l hx hy e = go hx hy
  where
    go : (hx hy : ℤ) → (hx -ℤ hy -ℤ pos 1) *ℤ pos B +ℤ pos l ≡ (hx *ℤ pos B +ℤ pos lx) -ℤ (hy *ℤ pos B +ℤ pos ly)
    go = by⊖ _ λ p n. by⊖ _ λ q m. simp zz (omega arith)

-- the upper word of a number below C·B in size
pub upper-mag : (B C l : ℕ) (h : ℤ) → l < B → unsigned_abs (h *ℤ pos B +ℤ pos l) < C * B → mag h < C
upper-mag B C l (pos n) k m = upper-lt' n m
  where
    upper-lt' : (n : ℕ) → n * B + l < C * B → n < C
    upper-lt' n m = upper_lt B n (l + 1) C 0 (omega arith) (omega arith) (omega arith)
upper-mag B C l (negsuc n) k m = upper_lt B n 1 C 0 (omega arith) (omega arith) (omega (arith, size-minus B l (negsuc n) k refl))

pub half-upper : (w : Wide) → w.lo < word → Half w → mag w.hi < 2 ^ 62
unfolding meaning
half-upper w l h = upper-mag word (2 ^ 62) w.lo w.hi l h

module _ (C : ℕ) where
  within : (z : ℤ) (p q : ℕ) → up z + q ≡ p + dn z → p < C + C → q ≤ C + C → mag z < C + C
  within (pos n) p q e h k = omega arith
  within (negsuc n) p q e h k = omega arith

  sides : (z : ℤ) → mag z < C → (up z < C) × (dn z ≤ C)
  sides (pos n) h = (h, omega arith)
  sides (negsuc n) h = (omega arith, omega arith)

  pub sum-mag : (a b : ℤ) → mag a < C → mag b < C → mag (a +ℤ b) < C + C
  sum-mag a b h k = let x = sides a h in let y = sides b k in within (a +ℤ b) (up a + up b) (dn a + dn b) (+-spec a b) (omega arith) (omega arith)

  pub next-mag : (a b : ℤ) → mag a < C → mag b < C → mag (a +ℤ b +ℤ pos 1) < C + C
  next-mag a b h k =
      let x = sides a h in
      let y = sides b k in
      within (a +ℤ b +ℤ pos 1) (up a + up b + 1) (dn a + dn b) (omega (arith, +-spec a b, +-spec (a +ℤ b) (pos 1))) (omega arith) (omega arith)

  minus-spec : (a b : ℤ) → up (a -ℤ b) + (dn a + up b) ≡ up a + dn b + dn (a -ℤ b)
  minus-spec a b = omega (arith, +-spec a (neg_ℤ b), neg_up b, neg_dn b)

  pub difference-mag : (a b : ℤ) → mag a < C → mag b < C → mag (a -ℤ b) < C + C
  difference-mag a b h k = let x = sides a h in let y = sides b k in within (a -ℤ b) (up a + dn b) (dn a + up b) (minus-spec a b) (omega arith) (omega arith)

  pub before-mag : (a b : ℤ) → mag a < C → mag b < C → mag (a -ℤ b -ℤ pos 1) < C + C
  before-mag a b h k =
      let x = sides a h in
      let y = sides b k in
      within (a -ℤ b -ℤ pos 1) (up a + dn b) (dn a + up b + 1) (omega (arith, minus-spec a b, minus-spec (a -ℤ b) (pos 1))) (omega arith) (omega arith)

-- ---- products
pub product-size : (x y : ℤ) → turned_if (not (beq (non_neg x) (non_neg y))) (pos (unsigned_abs x * unsigned_abs y)) ≡ x *ℤ y
product-size (pos a) (pos b) = refl
product-size (pos a) (negsuc b) = refl
product-size (negsuc a) (pos b) = refl
product-size (negsuc a) (negsuc b) = refl

-- a number far within ±2^126
pub half_of : (w : Wide) (n : ℕ) → unsigned_abs (meaning w) ≤ n → n ≤ 2 ^ 100 → Half w
half_of w n h k = omega arith
