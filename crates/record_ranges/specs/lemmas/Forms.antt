-- What the tests of SPEC, "Records", say, in the forms in which the code decides them.
use Rattle.std.specs.Prelude.{◌≡◌, refl, Bool, true, false, ◌&&◌, ℕ, zero, suc, leb, ℤ, pos, negsuc, nat_abs}
use Rattle.std.proofs.Common.{sym, ◌∙◌, ap, zero-le, arith, le-leb}
use Rattle.std.proofs.Math.Dec.{leb-suc-suc}
use Rattle.std.proofs.lemmas.Bool.{lt-leb}
use Rattle.record_ranges.specs.Ranges.{between, within, rectangle, ellipse, slice, entries}

both-right-true : (b : Bool) → b && true ≡ b
both-right-true true = refl
both-right-true false = refl

-- −m ≤ z ≤ m: |z| ≤ m
pub within-nat_abs : (m : ℕ) (z : ℤ) → within m z ≡ leb (nat_abs z) m
within-nat_abs zero (pos n) = rw (le-leb 0 n zero-le) refl
within-nat_abs (suc m) (pos n) = refl
within-nat_abs zero (negsuc n) = sym (lt-leb (suc n) 0 (omega arith))
within-nat_abs (suc m) (negsuc n) = both-right-true (leb n m) ∙ sym (leb-suc-suc n m)

pub both-assoc : (a b c : Bool) → a && b && c ≡ a && (b && c)
both-assoc true b c = refl
both-assoc false b c = refl

-- the tests of the fields one after the other
pub rectangle-is : (n : ℕ) (xl xh yl yh : ℤ) {a b c d e : Bool} → a ≡ between 1 100 n → b ≡ within 10000 xl → c ≡ within 10000 xh → d ≡ within 10000 yl → e ≡ within 10000 yh
    → a && b && c && d && e ≡ rectangle n xl xh yl yh
rectangle-is n xl xh yl yh {a} {b} {c} {d} {e} p q s t u = rw (← p, ← q, ← s, ← t, ← u) (regroup a b c d e)
  where
    regroup : (a b c d e : Bool) → a && b && c && d && e ≡ a && (b && c && (d && e))
    regroup a b c d e = simp both-assoc

pub ellipse-is : (n : ℕ) (cx cy : ℤ) (p : ℕ) (q : ℤ) (r s : ℕ) {a b c d e f g : Bool} → a ≡ between 1 100 n → b ≡ within 10000 cx → c ≡ within 10000 cy → d ≡ between 1 100 p → e ≡ within 100 q → f ≡ between 1 100 r → g ≡ leb s 1000000
    → a && b && c && d && e && f && g ≡ ellipse n cx cy p q r s
ellipse-is n cx cy p q r s {a} {b} {c} {d} {e} {f} {g} h i j k l m o = rw (← h, ← i, ← j, ← k, ← l, ← m, ← o) (regroup a b c d e f g)
  where
    regroup : (a b c d e f g : Bool) → a && b && c && d && e && f && g ≡ a && (b && c && (d && e && (f && g)))
    regroup a b c d e f g = simp both-assoc

pub slice_is : (n : ℕ) (zx zy w : ℤ) {a b c d : Bool} → a ≡ between 1 100 n → b ≡ within 100 zx → c ≡ within 100 zy → d ≡ within 1000000 w → a && b && c && d ≡ slice n zx zy w
slice_is n zx zy w {a} {b} {c} {d} p q s t = rw (← p, ← q, ← s, ← t) (ap (λ (x : Bool). x && d) (both-assoc a b c) ∙ both-assoc a (b && c) d)

pub entries-is : (x y z w : ℤ) {a b c d : Bool} → a ≡ within 100 x → b ≡ within 100 y → c ≡ within 100 z → d ≡ within 100 w → a && b && c && d ≡ entries x y z w
entries-is x y z w {a} {b} {c} {d} p q s t = rw (← p, ← q, ← s, ← t) (both-assoc (a && b) c d)
