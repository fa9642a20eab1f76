-- Halves of sums: exact where the sum is even, and their size.
use Rattle.std.specs.Prelude.{◌≡◌, refl, zero, suc, ◌+◌, ◌/◌, ◌≤◌, ℤ, pos, negsuc, neg_ℤ, nat_abs, ◌+ℤ◌, ◌-ℤ◌}
use Rattle.std.proofs.Common.{sym, arith}
use Rattle.integers.specs.Difference.{by⊖, zz}
use Rattle.integers.specs.Parity.{half, half-double}
use Rattle.integers.specs.lemmas.Size.{size-neg, size-+}

-- twice h has the half h
pub half-by : (h : ℤ) {z : ℤ} → h +ℤ h ≡ z → half z ≡ h
half-by h e = rw (← e) (half-double h)

pub half-neg : (z : ℤ) → half (neg_ℤ z) ≡ neg_ℤ (half z)
half-neg (pos zero) = refl
half-neg (pos (suc n)) = refl
half-neg (negsuc n) = sym (neg_neg (pos (suc n / 2)))
  where
    neg_neg : (z : ℤ) → neg_ℤ (neg_ℤ z) ≡ z
    neg_neg = by⊖ _ λ z z'. simp zz (omega arith)

-- an even sum of four stays even where signs turn
pub halves : (x y z w h : ℤ) → h +ℤ h ≡ x +ℤ y +ℤ z +ℤ w →
    (half (x +ℤ y +ℤ z +ℤ w) ≡ h) × (half (x +ℤ y -ℤ z -ℤ w) ≡ h -ℤ z -ℤ w) × (half (x -ℤ y +ℤ z -ℤ w) ≡ h -ℤ y -ℤ w) × (half (x -ℤ y -ℤ z +ℤ w) ≡ h -ℤ y -ℤ z)
halves x y z w h e =
    let f = lin x y z w h e in
    (half-by h e, half-by (h -ℤ z -ℤ w) f.0, half-by (h -ℤ y -ℤ w) f.1, half-by (h -ℤ y -ℤ z) f.2)
  where
    lin : (x y z w h : ℤ) → h +ℤ h ≡ x +ℤ y +ℤ z +ℤ w →
        ((h -ℤ z -ℤ w) +ℤ (h -ℤ z -ℤ w) ≡ x +ℤ y -ℤ z -ℤ w) × ((h -ℤ y -ℤ w) +ℤ (h -ℤ y -ℤ w) ≡ x -ℤ y +ℤ z -ℤ w) × ((h -ℤ y -ℤ z) +ℤ (h -ℤ y -ℤ z) ≡ x -ℤ y -ℤ z +ℤ w)
    lin = by⊖ _ λ x x'. by⊖ _ λ y y'. by⊖ _ λ z z'. by⊖ _ λ w w'. by⊖ _ λ h h'. simp zz (omega arith)

pub size-half : (z : ℤ) → nat_abs (half z) + nat_abs (half z) ≤ nat_abs z
size-half (pos n) = omega arith
size-half (negsuc n) = omega (arith, size-neg (pos (suc n / 2)))

-- half of a sum of four
pub half-size : (x y z w : ℤ) → let h = nat_abs (half (x +ℤ y +ℤ z +ℤ w)) in h + h ≤ nat_abs x + nat_abs y + nat_abs z + nat_abs w
half-size x y z w = omega (arith, size-half (x +ℤ y +ℤ z +ℤ w), size-+ (x +ℤ y +ℤ z) w, size-+ (x +ℤ y) z, size-+ x y)
