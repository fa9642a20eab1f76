-- Every tail of the table spells its matrix: one test of the points with coordinates −1, 0 and 1, which computes, and its law.
use Rattle.std.specs.Prelude.{◌≡◌, refl, Bool, true, false, ◌&&◌, List, ℕ, zero, suc, ◌*◌, ◌%◌, ◌<◌, ◌^◌, eqb, ℤ, pos, negsuc, ◌+ℤ◌}
use Rattle.std.proofs.Common.{sym, ◌∙◌, ap, ap₂, arith, eq-eqb, eqb-true}
use Rattle.integers.specs.lemmas.Booleans.{both_true}
use Rattle.ring.specs.declared.Point.{Point}
use Rattle.ring.specs.Point as P
use Rattle.gate_theory.specs.Bits.{implies, odd, plain}
use Rattle.gate_theory.specs.Points.{N, F}
use Rattle.gate_theory.specs.Parities.{parities}
use Rattle.gate_theory.specs.Table.{Letter, tail_at}
use Rattle.gate_theory.specs.Matrix.{Hs, scale, √2^, made, Spells}
use Rattle.gate_theory.proofs.lemmas.Run.{run, product-run, root, scale-made, made-rest}

abbrev pub equal : ℤ → ℤ → Bool
equal (pos m) (pos n) = eqb m n
equal (pos m) (negsuc n) = false
equal (negsuc m) (pos n) = false
equal (negsuc m) (negsuc n) = eqb m n

abbrev pub equals : Point → Point → Bool
equals v w = equal v.a w.a && equal v.b w.b && (equal v.c w.c && equal v.d w.d)

-- the word w is the matrix of u, t and l = 2m over √2^k
abbrev pub spells_from : ℕ → Point → Point → ℕ → List Letter → Bool
spells_from k u t m w = equals (root k (run w).u) (root (Hs w) u) && equals (root k (run w).t) (root (Hs w) t) && eqb ((run w).l % 8) (2 * m)

abbrev pub good : ℕ → Point → Point → Bool
good k u t = spells_from k u t 0 (tail_at u t 0) && spells_from k u t 1 (tail_at u t 1) && (spells_from k u t 2 (tail_at u t 2) && spells_from k u t 3 (tail_at u t 3))

-- the equation at k
abbrev pub solves : ℕ → Point → Point → Bool
solves k u t = equal (N u +ℤ N t) (pos (2 ^ k)) && equal (F u +ℤ F t) (pos 0)

abbrev pub three : (ℤ → Bool) → Bool
three f = f (pos 0) && (f (pos 1) && f (negsuc 0))

abbrev pub points : (Point → Bool) → Bool
points f = three (λ a. three (λ b. three (λ c. three (λ d. f (record { a = a; b = b; c = c; d = d })))))

pub test-0 : points (λ u. points (λ t. implies (solves 0 u t) (good 0 u t))) ≡ true
test-0 = refl

pub test-1 : points (λ u. points (λ t. implies (solves 1 u t && (odd (parities u) && plain (parities u) (parities t))) (good 1 u t))) ≡ true
test-1 = refl

-- ---- what the tests say
pub equal_is : (x y : ℤ) → equal x y ≡ true → x ≡ y
equal_is (pos m) (pos n) e = ap pos (eqb-true m n e)
equal_is (pos m) (negsuc n) e = let z : ◌≡◌ {A = ℕ} 0 1 = cc in absurd (omega arith)
equal_is (negsuc m) (pos n) e = let z : ◌≡◌ {A = ℕ} 0 1 = cc in absurd (omega arith)
equal_is (negsuc m) (negsuc n) e = ap negsuc (eqb-true m n e)

pub is_equal : (x : ℤ) → equal x x ≡ true
is_equal (pos m) = eq-eqb m m refl
is_equal (negsuc m) = eq-eqb m m refl

equals-is : (v w : Point) → equals v w ≡ true → v ≡ w
equals-is v w e =
    let f = both_true (equal v.a w.a && equal v.b w.b) (equal v.c w.c && equal v.d w.d) e in
    let g = both_true (equal v.a w.a) (equal v.b w.b) f.0 in
    let h = both_true (equal v.c w.c) (equal v.d w.d) f.1 in
    P.ext (equal_is v.a w.a g.0) (equal_is v.b w.b g.1) (equal_is v.c w.c h.0) (equal_is v.d w.d h.1)

pub spells_at : (k : ℕ) (u t : Point) (m l : ℕ) (w : List Letter) → l % 8 ≡ 2 * m → spells_from k u t m w ≡ true → Spells w k (made u t l)
spells_at k u t m l w n e =
    let f = both_true (equals (root k (run w).u) (root (Hs w) u) && equals (root k (run w).t) (root (Hs w) t)) (eqb ((run w).l % 8) (2 * m)) e in
    let g = both_true (equals (root k (run w).u) (root (Hs w) u)) (equals (root k (run w).t) (root (Hs w) t)) f.0 in
    let p = equals-is (root k (run w).u) (root (Hs w) u) g.0 in
    let q = equals-is (root k (run w).t) (root (Hs w) t) g.1 in
    let c = run w in
    record {
      exactly =
          ap (scale (√2^ k)) (product-run w) ∙ scale-made k c.u c.t c.l ∙ ap₂ (λ u t. made u t c.l) p q
          ∙ made-rest (root (Hs w) u) (root (Hs w) t) c.l (2 * m) (eqb-true (c.l % 8) (2 * m) f.1) ∙ sym (made-rest (root (Hs w) u) (root (Hs w) t) l (2 * m) n) ∙ sym (scale-made (Hs w) u t l);
    }

pub good-at : (k : ℕ) (u t : Point) (m : ℕ) → m < 4 → good k u t ≡ true → spells_from k u t m (tail_at u t m) ≡ true
good-at k u t m h e = go m h
  where
    at : ℕ → Bool
    at m = spells_from k u t m (tail_at u t m)

    four : at 0 && at 1 && (at 2 && at 3) ≡ true
    four = e

    go : (m : ℕ) → m < 4 → at m ≡ true
    go zero h = (both_true (at 0) (at 1) (both_true (at 0 && at 1) (at 2 && at 3) four).0).0
    go (suc zero) h = (both_true (at 0) (at 1) (both_true (at 0 && at 1) (at 2 && at 3) four).0).1
    go (suc (suc zero)) h = (both_true (at 2) (at 3) (both_true (at 0 && at 1) (at 2 && at 3) four).1).0
    go (suc (suc (suc zero))) h = (both_true (at 2) (at 3) (both_true (at 0 && at 1) (at 2 && at 3) four).1).1
    go (suc (suc (suc (suc m)))) h = absurd (omega arith)
