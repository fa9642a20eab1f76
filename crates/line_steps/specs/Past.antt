-- The coordinates from −10,000 to 10,000 and their digits; how many of them lie below a given number.
use Rattle.std.specs.Prelude.{◌≡◌, refl, ℕ, ◌≤◌, ◌<◌, min, T, ℤ, pos, negsuc, neg_ℤ, nat_abs, ◌+ℤ◌, ◌-ℤ◌}
use Rattle.std.proofs.Common.{arith, le→leb, leb→le, lt→ltb}
use Rattle.std.specs.Int.Signed.{non_neg}
use Rattle.integers.specs.Difference.{by⊖, zz, ◌≼◌, ◌≺◌, up}
use Rattle.line_steps.specs.Line.{bound, span, coordinate}

-- the digit of a coordinate within ±10,000
pub digit : (z : ℤ) → neg_ℤ (pos bound) ≼ z → z ≼ pos bound → (x : ℕ) × (x < span) × (z ≡ coordinate x)
digit z h k = go (z +ℤ pos bound) (low z h) (high z k) (back z)
  where
    low : (z : ℤ) → neg_ℤ (pos bound) ≼ z → pos 0 ≼ z +ℤ pos bound
    low = by⊖ _ λ p p'. simp zz (omega arith)

    high : (z : ℤ) → z ≼ pos bound → z +ℤ pos bound ≼ pos 20000
    high = by⊖ _ λ p p'. simp zz (omega arith)

    back : (z : ℤ) → z ≡ z +ℤ pos bound -ℤ pos bound
    back = by⊖ _ λ p p'. simp zz (omega arith)

    go : (w : ℤ) → pos 0 ≼ w → w ≼ pos 20000 → z ≡ w -ℤ pos bound → (x : ℕ) × (x < span) × (z ≡ coordinate x)
    go (pos n) h k e = let l = leb→le n 20000 k.le in (n, omega arith, e)
    go (negsuc n) h k e = absurd h.le

pub coordinate-≺ : (x y : ℕ) → x < y → coordinate x ≺ coordinate y
coordinate-≺ x y h = go (pos x) (pos y) (record { lt = lt→ltb x y h })
  where
    go : (x y : ℤ) → x ≺ y → x -ℤ pos bound ≺ y -ℤ pos bound
    go = by⊖ _ λ p p'. by⊖ _ λ q q'. simp zz (omega arith)

-- how many of the coordinates lie below z
abbrev pub past_of : ℤ → ℕ
past_of z = min span (up (z +ℤ pos bound))

-- ---- the digits below z, and those from z on
below_up : (t : ℕ) (w : ℤ) → t < up w → pos t ≺ w
below_up t (pos n) h = record { lt = lt→ltb t n h }
below_up t (negsuc n) h = absurd (omega arith)

from_up : (t : ℕ) (w : ℤ) → up w ≤ t → w ≼ pos t
from_up t (pos n) h = record { le = le→leb n t h }
from_up t (negsuc n) h = record { le = tt }

over-up : (t : ℕ) (w : ℤ) → up w < t → w ≺ pos t
over-up t (pos n) h = record { lt = lt→ltb n t h }
over-up t (negsuc n) h = record { lt = tt }

at_up : (t : ℕ) (w : ℤ) → pos 0 ≼ w → t ≤ up w → pos t ≼ w
at_up t (pos n) g h = record { le = le→leb t n h }
at_up t (negsuc n) g h = absurd g.le

pub below-past : (z : ℤ) (t : ℕ) → t < past_of z → coordinate t ≺ z
below-past z t h = go (pos t) z (below_up t (z +ℤ pos bound) (omega arith))
  where
    go : (t z : ℤ) → t ≺ z +ℤ pos bound → t -ℤ pos bound ≺ z
    go = by⊖ _ λ p p'. by⊖ _ λ q q'. simp zz (omega arith)

pub from_past : (z : ℤ) (t : ℕ) → t < span → past_of z ≤ t → z ≼ coordinate t
from_past z t l h = go (pos t) z (from_up t (z +ℤ pos bound) (omega arith))
  where
    go : (t z : ℤ) → z +ℤ pos bound ≼ t → z ≼ t -ℤ pos bound
    go = by⊖ _ λ p p'. by⊖ _ λ q q'. simp zz (omega arith)

pub over-past : (z : ℤ) (t : ℕ) → t < span → past_of z < t → z ≺ coordinate t
over-past z t l h = go (pos t) z (over-up t (z +ℤ pos bound) (omega arith))
  where
    go : (t z : ℤ) → z +ℤ pos bound ≺ t → z ≺ t -ℤ pos bound
    go = by⊖ _ λ p p'. by⊖ _ λ q q'. simp zz (omega arith)

pub at-past : (z : ℤ) → neg_ℤ (pos bound) ≼ z → coordinate (past_of z) ≼ z
at-past z h = go (pos (past_of z)) z (at_up (past_of z) (z +ℤ pos bound) (nn z h) (omega arith))
  where
    nn : (z : ℤ) → neg_ℤ (pos bound) ≼ z → pos 0 ≼ z +ℤ pos bound
    nn = by⊖ _ λ p p'. simp zz (omega arith)

    go : (t z : ℤ) → t ≼ z +ℤ pos bound → t -ℤ pos bound ≼ z
    go = by⊖ _ λ p p'. by⊖ _ λ q q'. simp zz (omega arith)

-- what the tests against the two ends say
pub past-none : (z : ℤ) → z ≺ neg_ℤ (pos bound) → 0 ≡ past_of z
past-none z h = let e = zero (z +ℤ pos bound) (go z h) in omega arith
  where
    go : (z : ℤ) → z ≺ neg_ℤ (pos bound) → z +ℤ pos bound ≼ pos 0
    go = by⊖ _ λ p p'. simp zz (omega arith)

    zero : (w : ℤ) → w ≼ pos 0 → up w ≡ 0
    zero (pos n) h = omega (arith, leb→le n 0 h.le)
    zero (negsuc n) h = refl

pub past_all : (z : ℤ) → pos bound ≺ z → span ≡ past_of z
past_all z h = let e = large (z +ℤ pos bound) (go z h) in omega arith
  where
    go : (z : ℤ) → pos bound ≺ z → pos span ≼ z +ℤ pos bound
    go = by⊖ _ λ p p'. simp zz (omega arith)

    large : (w : ℤ) → pos span ≼ w → span ≤ up w
    large (pos n) h = leb→le span n h.le
    large (negsuc n) h = absurd h.le

pub past-some : (z : ℤ) → neg_ℤ (pos bound) ≼ z → z ≼ pos bound → T (non_neg (z +ℤ pos bound)) × (nat_abs (z +ℤ pos bound) ≤ 20000) × (nat_abs (z +ℤ pos bound) ≡ past_of z)
past-some z h k = between (z +ℤ pos bound) (low z h) (high z k)
  where
    low : (z : ℤ) → neg_ℤ (pos bound) ≼ z → pos 0 ≼ z +ℤ pos bound
    low = by⊖ _ λ p p'. simp zz (omega arith)

    high : (z : ℤ) → z ≼ pos bound → z +ℤ pos bound ≼ pos 20000
    high = by⊖ _ λ p p'. simp zz (omega arith)

    between : (w : ℤ) → pos 0 ≼ w → w ≼ pos 20000 → T (non_neg w) × (nat_abs w ≤ 20000) × (nat_abs w ≡ min span (up w))
    between (pos n) h k = let l = leb→le n 20000 k.le in (tt, l, omega arith)
    between (negsuc n) h k = absurd h.le
