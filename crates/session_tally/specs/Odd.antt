-- The exponents of points that √2 does not divide, that it divides and 2 does not, and that 2 divides.
-- Assumes nothing.
use Rattle.std.specs.Prelude.{◌≡◌, refl, Bool, true, false, not, ◌&&◌, ◌⊎◌, ℕ, zero, suc, ◌-◌, ◌≤◌, ◌<◌, ℤ, pos, ◌+ℤ◌, ◌-ℤ◌, Some, None}
use Rattle.std.proofs.Common.{sym, ap, ap₂, ◌∙◌, inl, inr, arith}
use Rattle.std.proofs.lemmas.Bool.{false≢true}
use Rattle.std.proofs.Math.IntN.{+ℤ_comm}
use Rattle.integers.specs.Difference.{by⊖, zz}
use Rattle.integers.specs.Parity.{even, half, double_half, even-by, even--→+}
use Rattle.ring.specs.declared.Point.{Point}
use Rattle.ring.specs.Point.{◌*ω◌, √2ω, ext}
use Rattle.ring.specs.Point.Divide.{divide_root2, halves, divide_even, divide_odd-ac, divide_odd-bd, divide_times, divide_whole, times-√2}
use Rattle.ring.specs.Point.Exponent.{exponent_of, exponent_zero, exponent_whole, exponent_not}

-- √2 does not divide v
abbrev pub odd : Point → Bool
odd v = not (even (v.a -ℤ v.c) && even (v.b -ℤ v.d))

-- half of v, each number toward zero
abbrev pub half_of : Point → Point
half_of v = record { a = half v.a; b = half v.b; c = half v.c; d = half v.d }

odd-not : (v : Point) → odd v ≡ true → divide_root2 v ≡ None
odd-not v h = go (even (v.a -ℤ v.c)) (even (v.b -ℤ v.d)) refl refl h
  where
    go : (s t : Bool) → even (v.a -ℤ v.c) ≡ s → even (v.b -ℤ v.d) ≡ t → not (s && t) ≡ true → divide_root2 v ≡ None
    go true true e f h = absurd (false≢true h)
    go true false e f h = divide_odd-bd v f
    go false t e f h = divide_odd-ac v e

-- not odd: both differences are even
pub evens : (v : Point) → odd v ≡ false → (even (v.a -ℤ v.c) ≡ true) × (even (v.b -ℤ v.d) ≡ true)
evens v h = go (even (v.a -ℤ v.c)) (even (v.b -ℤ v.d)) refl refl h
  where
    go : (s t : Bool) → even (v.a -ℤ v.c) ≡ s → even (v.b -ℤ v.d) ≡ t → not (s && t) ≡ false → (even (v.a -ℤ v.c) ≡ true) × (even (v.b -ℤ v.d) ≡ true)
    go true true e f h = (e, f)
    go true false e f h = absurd (false≢true (sym h))
    go false t e f h = absurd (false≢true (sym h))

pub odd-ac : (v : Point) → even (v.a -ℤ v.c) ≡ false → odd v ≡ true
odd-ac v e = rw e refl

pub odd-bd : (v : Point) (b : Bool) → even (v.a -ℤ v.c) ≡ b → even (v.b -ℤ v.d) ≡ false → odd v ≡ true
odd-bd v true e f = rw (e, f) refl
odd-bd v false e f = rw e refl

-- the exponent of a point that √2 does not divide is the scale
pub odd-exponent : (k : ℕ) (v : Point) → odd v ≡ true → exponent_of k v ≡ k
odd-exponent zero v h = exponent_zero v
odd-exponent (suc k) v h = sym (exponent_not (suc k) v (omega arith) (odd-not v h))

-- one step down
module _ (k : ℕ) (v : Point) (h : odd v ≡ false) where
  divides : divide_root2 v ≡ Some (halves v)
  divides = let e = evens v h in divide_even v e.0 e.1

  pub small-exponent : k < 2 → 0 ≡ exponent_of k v
  small-exponent l = go k l refl
    where
      go : (m : ℕ) → m < 2 → k ≡ m → 0 ≡ exponent_of k v
      go zero m e = sym (ap (λ (n : ℕ). exponent_of n v) e ∙ exponent_zero v)
      go (suc zero) m e = sym (exponent_zero (halves v)) ∙ exponent_whole 1 v (halves v) (omega arith) divides ∙ ap (λ (n : ℕ). exponent_of n v) (sym e)
      go (suc (suc n)) m e = absurd (omega arith)

  parts : (v.a ≡ (halves v).b -ℤ (halves v).d) × (v.b ≡ (halves v).c +ℤ (halves v).a)
  parts =
      let e = sym (divide_whole v (halves v) divides) ∙ times-√2 (halves v) in
      (ap (λ (w : Point). w.a) e, ap (λ (w : Point). w.b) e)

  odd-half : (even v.a ≡ false) ⊎ (even v.b ≡ false) → odd (halves v) ≡ true
  odd-half (inl e) = odd-bd (halves v) _ refl (ap even (sym parts.0) ∙ e)
  odd-half (inr e) = go (even ((halves v).a -ℤ (halves v).c)) refl
    where
      go : (b : Bool) → even ((halves v).a -ℤ (halves v).c) ≡ b → odd (halves v) ≡ true
      go false f = odd-ac (halves v) f
      go true f = absurd (false≢true (sym e ∙ ap even (parts.1 ∙ +ℤ_comm (halves v).c (halves v).a) ∙ even--→+ (halves v).a (halves v).c f))

  -- 2 does not divide v
  pub low-exponent : 2 ≤ k → (even v.a ≡ false) ⊎ (even v.b ≡ false) → k - 1 ≡ exponent_of k v
  low-exponent l e = sym (odd-exponent (k - 1) (halves v) (odd-half e)) ∙ exponent_whole k v (halves v) (omega arith) divides

-- 2 divides v
module _ (k : ℕ) (v : Point) (h : odd v ≡ false) (ea : even v.a ≡ true) (eb : even v.b ≡ true) where
  even-rest : (x y : ℤ) → even x ≡ true → even (x -ℤ y) ≡ true → even y ≡ true
  even-rest x y e f = even-by y (half x -ℤ half (x -ℤ y)) (lin x y (half x) (half (x -ℤ y)) (double_half x e) (double_half (x -ℤ y) f))
    where
      lin : (x y s t : ℤ) → s +ℤ s ≡ x → t +ℤ t ≡ x -ℤ y → (s -ℤ t) +ℤ (s -ℤ t) ≡ y
      lin = by⊖ _ λ x x'. by⊖ _ λ y y'. by⊖ _ λ s s'. by⊖ _ λ t t'. simp zz (omega arith)

  abbrev u : Point
  u = half_of v

  less : (x y : ℤ) → (y +ℤ x) -ℤ (y -ℤ x) ≡ x +ℤ x
  less = by⊖ _ λ x x'. by⊖ _ λ y y'. simp zz (omega arith)

  more : (x y : ℤ) → (y +ℤ x) +ℤ (x -ℤ y) ≡ x +ℤ x
  more = by⊖ _ λ x x'. by⊖ _ λ y y'. simp zz (omega arith)

  twice : (u *ω √2ω) *ω √2ω ≡ v
  twice =
      let e = evens v h in
      let ec = even-rest v.a v.c ea e.0 in
      let ed = even-rest v.b v.d eb e.1 in
      times-√2 (u *ω √2ω)
      ∙ ap (λ (w : Point). record { a = w.b -ℤ w.d; b = w.c +ℤ w.a; c = w.d +ℤ w.b; d = w.c -ℤ w.a }) (times-√2 u)
      ∙ ext (less u.a u.c ∙ double_half v.a ea)
      (more u.b u.d ∙ double_half v.b eb)
      (thrice u.a u.c ∙ double_half v.c ec)
      (fourth u.b u.d ∙ double_half v.d ed)
    where
      thrice : (x y : ℤ) → (y -ℤ x) +ℤ (y +ℤ x) ≡ y +ℤ y
      thrice = by⊖ _ λ x x'. by⊖ _ λ y y'. simp zz (omega arith)

      fourth : (x y : ℤ) → (y +ℤ x) -ℤ (x -ℤ y) ≡ y +ℤ y
      fourth = by⊖ _ λ x x'. by⊖ _ λ y y'. simp zz (omega arith)

  pub half-exponent : 2 ≤ k → exponent_of (k - 2) u ≡ exponent_of k v
  half-exponent l =
      let d : divide_root2 v ≡ Some (u *ω √2ω) = ap divide_root2 (sym twice) ∙ divide_times (u *ω √2ω) in
      let e : k - 2 ≡ k - 1 - 1 = omega arith in
      ap (λ (n : ℕ). exponent_of n u) e
      ∙ exponent_whole (k - 1) (u *ω √2ω) u (omega arith) (divide_times u)
      ∙ exponent_whole k v (u *ω √2ω) (omega arith) d
