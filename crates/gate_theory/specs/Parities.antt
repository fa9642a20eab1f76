-- The parities of a point, of sums and multiples of points, and what they say of its squares and its cross sum.
use Rattle.std.specs.Prelude.{◌≡◌, refl, true, not, [], ◌∷◌, ℕ, ◌+◌, ◌%◌, ℤ, pos, neg_ℤ, ◌+ℤ◌, ◌-ℤ◌, ◌*ℤ◌}
use Rattle.std.proofs.Common.{sym, ◌∙◌, ap, ap₂, arith}
use Rattle.integers.specs.Difference.{by⊖, zz}
use Rattle.integers.specs.lemmas.RingZ.{polyZ, by_ring}
use Rattle.ring.specs.declared.Point.{Point}
use Rattle.ring.specs.Point.{◌+ω◌, ◌-ω◌, ◌*ω◌, √2ω, sum-parts}
use Rattle.ring.specs.Point.Divide.{times-√2}
use Rattle.gate_theory.specs.Bits.{Bits, xor, sum, turned, backed, rooted, weight, crossed, uncrossed}
use Rattle.gate_theory.specs.Odd.{odd?, odd-neg, odd-+, odd-*, quarter, square-is}
use Rattle.gate_theory.specs.Points.{turn, back, N, F, minus_parts}

abbrev pub parities : Point → Bits
parities v = record { a = odd? v.a; b = odd? v.b; c = odd? v.c; d = odd? v.d }

pub bits : {p q : Bits} → p.a ≡ q.a → p.b ≡ q.b → p.c ≡ q.c → p.d ≡ q.d → p ≡ q
bits e f g h = λ i. record { a = e i; b = f i; c = g i; d = h i }

pub odd-- : (x y : ℤ) → odd? (x -ℤ y) ≡ xor (odd? x) (odd? y)
odd-- x y = odd-+ x (neg_ℤ y) ∙ ap (xor (odd? x)) (odd-neg y)

pub parities-+ : (v w : Point) → parities (v +ω w) ≡ sum (parities v) (parities w)
parities-+ v w = ap parities (sum-parts v w) ∙ bits (odd-+ v.a w.a) (odd-+ v.b w.b) (odd-+ v.c w.c) (odd-+ v.d w.d)

pub parities-- : (v w : Point) → parities (v -ω w) ≡ sum (parities v) (parities w)
parities-- v w = ap parities (minus_parts v w) ∙ bits (odd-- v.a w.a) (odd-- v.b w.b) (odd-- v.c w.c) (odd-- v.d w.d)

pub parities-turn : (v : Point) → parities (turn v) ≡ turned (parities v)
parities-turn v = bits refl refl refl (odd-neg v.a)

pub parities-back : (v : Point) → parities (back v) ≡ backed (parities v)
parities-back v = bits (odd-neg v.d) refl refl refl

pub parities-√2 : (v : Point) → parities (v *ω √2ω) ≡ rooted (parities v)
parities-√2 v = ap parities (times-√2 v) ∙ bits (odd-- v.b v.d) (odd-+ v.c v.a) (odd-+ v.d v.b) (odd-- v.c v.a)

-- ---- N by 4 and F by 2
quarters : Point → ℤ
quarters v = quarter v.a +ℤ quarter v.b +ℤ (quarter v.c +ℤ quarter v.d)

N-is : (v : Point) → N v ≡ pos 4 *ℤ quarters v +ℤ pos (weight (parities v))
unfolding quarters
N-is v = ap₂ ◌+ℤ◌ (ap₂ ◌+ℤ◌ (square-is v.a) (square-is v.b)) (ap₂ ◌+ℤ◌ (square-is v.c) (square-is v.d)) ∙ lin (quarter v.a) (quarter v.b) (quarter v.c) (quarter v.d) _ _ _ _
  where
    lin : (x y z w a b c d : ℤ) → pos 4 *ℤ x +ℤ a +ℤ (pos 4 *ℤ y +ℤ b) +ℤ (pos 4 *ℤ z +ℤ c +ℤ (pos 4 *ℤ w +ℤ d)) ≡ pos 4 *ℤ (x +ℤ y +ℤ (z +ℤ w)) +ℤ (a +ℤ b +ℤ (c +ℤ d))
    lin x y z w a b c d = by_ring (x ∷ y ∷ z ∷ w ∷ a ∷ b ∷ c ∷ d ∷ []) (search polyZ depth 40) refl

by_four : (m : ℤ) (w n : ℕ) → pos 4 *ℤ m +ℤ pos w ≡ pos n → w % 4 ≡ n % 4
by_four = by⊖ _ λ p q. λ w n. simp zz (omega arith)

pub weights : (v w : Point) (n : ℕ) → N v +ℤ N w ≡ pos n → (weight (parities v) + weight (parities w)) % 4 ≡ n % 4
weights v w n e = by_four (quarters v +ℤ quarters w) _ n (sym (ap₂ ◌+ℤ◌ (N-is v) (N-is w) ∙ lin (quarters v) (quarters w) _ _) ∙ e)
  where
    lin : (x y a b : ℤ) → pos 4 *ℤ x +ℤ a +ℤ (pos 4 *ℤ y +ℤ b) ≡ pos 4 *ℤ (x +ℤ y) +ℤ (a +ℤ b)
    lin x y a b = by_ring (x ∷ y ∷ a ∷ b ∷ []) (search polyZ depth 40) refl

F-odd : (v : Point) → odd? (F v) ≡ crossed (parities v)
F-odd v =
    odd-+ (v.d *ℤ v.c -ℤ v.d *ℤ v.a) (v.b *ℤ v.c +ℤ v.a *ℤ v.b)
    ∙ ap₂ xor (odd-- (v.d *ℤ v.c) (v.d *ℤ v.a) ∙ ap₂ xor (odd-* v.d v.c) (odd-* v.d v.a))
    (odd-+ (v.b *ℤ v.c) (v.a *ℤ v.b) ∙ ap₂ xor (odd-* v.b v.c) (odd-* v.a v.b))

pub crosses : (v w : Point) → F v +ℤ F w ≡ pos 0 → uncrossed (parities v) (parities w) ≡ true
crosses v w e = ap not (sym (odd-+ (F v) (F w) ∙ ap₂ xor (F-odd v) (F-odd w)) ∙ ap odd? e)
