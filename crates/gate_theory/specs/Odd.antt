-- The parity of an integer: of sums, products and squares.
use Rattle.std.specs.Prelude.{◌≡◌, refl, Bool, true, false, not, ◌&&◌, [], ◌∷◌, ℕ, zero, suc, ◌+◌, ◌/◌, ◌%◌, eqb, ℤ, pos, negsuc, neg_ℤ, ◌+ℤ◌, ◌-ℤ◌, ◌*ℤ◌}
use Rattle.std.proofs.Common.{sym, ◌∙◌, ap, ap₂, arith}
use Rattle.integers.specs.Difference.{ext, +-spec}
use Rattle.integers.specs.Parity.{even, even-double}
use Rattle.integers.specs.lemmas.RingZ.{polyZ, by_ring}
use Rattle.gate_theory.specs.Bits.{xor, bit}

abbrev pub odd? : ℤ → Bool
odd? z = not (even z)

-- z = 2 h + bit
abbrev pub floor : ℤ → ℤ
floor (pos n) = pos (n / 2)
floor (negsuc n) = negsuc (n / 2)

abbrev pub made : ℤ → Bool → ℤ
made h b = h +ℤ h +ℤ pos (bit b)

lin_pos : (m n : ℕ) (b : Bool) → m + m + bit b ≡ n → pos n ≡ made (pos m) b
lin_pos m n b e = ap pos (sym e)

lin_neg : (m n : ℕ) → (b : Bool) → m + m + 1 ≡ n + bit b → negsuc n ≡ made (negsuc m) b
lin_neg m n b e = ext (negsuc n) (made (negsuc m) b) (omega (arith, +-spec (negsuc (suc (m + m))) (pos (bit b))))

pub made-odd : (h : ℤ) (b : Bool) → odd? (made h b) ≡ b
made-odd h false = ap odd? (no_more (h +ℤ h)) ∙ ap not (even-double h)
  where
    no_more : (z : ℤ) → z +ℤ pos 0 ≡ z
    no_more z = by_ring (z ∷ []) (search polyZ depth 10) refl
made-odd (pos n) true = let e : (n + n + 1) % 2 ≡ 1 = omega arith in rw e refl
made-odd (negsuc n) true = ap odd? (sym (lin_neg n (n + n) true (omega arith))) ∙ last
  where
    last : odd? (negsuc (n + n)) ≡ true
    last = let e : suc (n + n) % 2 ≡ 1 = omega arith in rw e refl

pub split : (z : ℤ) → z ≡ made (floor z) (odd? z)
split (pos n) = go (n % 2) refl
  where
    go : (s : ℕ) → n % 2 ≡ s → pos n ≡ made (pos (n / 2)) (not (eqb s 0))
    go zero e = lin_pos (n / 2) n false (omega arith)
    go (suc zero) e = lin_pos (n / 2) n true (omega arith)
    go (suc (suc s)) e = absurd (omega arith)
split (negsuc n) = go (suc n % 2) refl
  where
    go : (s : ℕ) → suc n % 2 ≡ s → negsuc n ≡ made (negsuc (n / 2)) (not (eqb s 0))
    go zero e = lin_neg (n / 2) n false (omega arith)
    go (suc zero) e = lin_neg (n / 2) n true (omega arith)
    go (suc (suc s)) e = absurd (omega arith)

-- ---- of −x, x + y and x y
pub odd-of : (z h : ℤ) (b : Bool) → z ≡ made h b → odd? z ≡ b
odd-of z h b e = ap odd? e ∙ made-odd h b

pub odd-neg : (x : ℤ) → odd? (neg_ℤ x) ≡ odd? x
odd-neg x = odd-of (neg_ℤ x) (neg_ℤ (floor x) -ℤ pos (bit (odd? x))) (odd? x) (ap neg_ℤ (split x) ∙ lin (floor x) (pos (bit (odd? x))))
  where
    lin : (h b : ℤ) → neg_ℤ (h +ℤ h +ℤ b) ≡ (neg_ℤ h -ℤ b) +ℤ (neg_ℤ h -ℤ b) +ℤ b
    lin h b = by_ring (h ∷ b ∷ []) (search polyZ depth 20) refl

pub odd-+ : (x y : ℤ) → odd? (x +ℤ y) ≡ xor (odd? x) (odd? y)
odd-+ x y = ap odd? (ap₂ ◌+ℤ◌ (split x) (split y)) ∙ go (floor x) (floor y) (odd? x) (odd? y)
  where
    go : (h k : ℤ) (b c : Bool) → odd? (made h b +ℤ made k c) ≡ xor b c
    go h k false false = odd-of (made h false +ℤ made k false) (h +ℤ k) false (by_ring (h ∷ k ∷ []) (search polyZ depth 20) refl)
    go h k false true = odd-of (made h false +ℤ made k true) (h +ℤ k) true (by_ring (h ∷ k ∷ []) (search polyZ depth 20) refl)
    go h k true false = odd-of (made h true +ℤ made k false) (h +ℤ k) true (by_ring (h ∷ k ∷ []) (search polyZ depth 20) refl)
    go h k true true = odd-of (made h true +ℤ made k true) (h +ℤ k +ℤ pos 1) false (by_ring (h ∷ k ∷ []) (search polyZ depth 20) refl)

pub odd-* : (x y : ℤ) → odd? (x *ℤ y) ≡ odd? x && odd? y
odd-* x y = ap odd? (ap₂ ◌*ℤ◌ (split x) (split y)) ∙ go (floor x) (floor y) (odd? x) (odd? y)
  where
    go : (h k : ℤ) (b c : Bool) → odd? (made h b *ℤ made k c) ≡ b && c
    go h k false false = odd-of (made h false *ℤ made k false) (pos 2 *ℤ h *ℤ k) false (by_ring (h ∷ k ∷ []) (search polyZ depth 20) refl)
    go h k false true = odd-of (made h false *ℤ made k true) (h *ℤ (k +ℤ k +ℤ pos 1)) false (by_ring (h ∷ k ∷ []) (search polyZ depth 20) refl)
    go h k true false = odd-of (made h true *ℤ made k false) (pos 2 *ℤ h *ℤ k +ℤ k) false (by_ring (h ∷ k ∷ []) (search polyZ depth 20) refl)
    go h k true true = odd-of (made h true *ℤ made k true) (h *ℤ (k +ℤ k +ℤ pos 1) +ℤ k) true (by_ring (h ∷ k ∷ []) (search polyZ depth 20) refl)

-- ---- a square leaves its parity by 4
pub quarter : ℤ → ℤ
quarter x = floor x *ℤ floor x +ℤ floor x *ℤ pos (bit (odd? x))

pub square-is : (x : ℤ) → x *ℤ x ≡ pos 4 *ℤ quarter x +ℤ pos (bit (odd? x))
unfolding quarter
square-is x = ap₂ ◌*ℤ◌ (split x) (split x) ∙ go (floor x) (odd? x)
  where
    go : (h : ℤ) (b : Bool) → made h b *ℤ made h b ≡ pos 4 *ℤ (h *ℤ h +ℤ h *ℤ pos (bit b)) +ℤ pos (bit b)
    go h false = by_ring (h ∷ []) (search polyZ depth 20) refl
    go h true = by_ring (h ∷ []) (search polyZ depth 20) refl
