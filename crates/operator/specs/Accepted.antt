-- What the test says of an operator that it accepts: the size of its numbers, its parity, its determinant.
use Rattle.std.specs.Prelude.{◌≡◌, refl, ◌⊎◌, Bool, true, false, cond, ◌||◌, ℕ, zero, suc, ◌≤◌, T, eqb, ℤ, pos, negsuc, neg_ℤ, nat_abs, ◌*ℤ◌, Ok, Err}
use Rattle.std.proofs.Common.{sym, ◌∙◌, ap, subst, inl, inr, zero-le, arith, SFits, to_z, of_z, to_z-of_z, leb-true, le-leb, eq-eqb, ne_eqb}
use Rattle.std.specs.Int.Signed.{le_z}
use Rattle.std.specs.Int.{Width}
use Rattle.integers.specs.lemmas.Booleans.{both_true}
use Rattle.integers.specs.lemmas.Order.{≼-antisym}
use Rattle.operator.specs.declared.Operator.{Operator}
use Rattle.operator.specs.declared.Refusal.TheVariants.{OutOfRange, OddParity, NotSpecial}
use Rattle.operator.specs.Operator.{within, all_within, in_range, even_parity, det_whole, det_root, equal_z, special, check_of}

either_true : (x y : Bool) → x || y ≡ true → (x ≡ true) ⊎ (y ≡ true)
either_true true y h = inl refl
either_true false y h = inr h

-- ---- ranges: within −m and m is of size at most m
pub within-size : (m : ℕ) (z : ℤ) → within (pos m) z ≡ true → nat_abs z ≤ m
within-size m z h = bound m z (both_true (le_z (neg_ℤ (pos m)) z) (le_z z (pos m)) h)
  where
    bound : (m : ℕ) (z : ℤ) → (le_z (neg_ℤ (pos m)) z ≡ true) × (le_z z (pos m) ≡ true) → nat_abs z ≤ m
    bound m (pos n) e = leb-true n m e.1
    bound zero (negsuc n) e = let f = e.0 in let z : ◌≡◌ {A = ℕ} 0 1 = cc in absurd (omega arith)
    bound (suc m) (negsuc n) e = omega (arith, leb-true n m e.0)

pub size-within : (m : ℕ) (z : ℤ) → nat_abs z ≤ m → within (pos m) z ≡ true
size-within zero (pos n) h = rw (le-leb 0 n zero-le, le-leb n 0 h) refl
size-within (suc m) (pos n) h = le-leb n (suc m) h
size-within zero (negsuc n) h = absurd (omega arith)
size-within (suc m) (negsuc n) h = rw (le-leb n m (omega arith)) refl

pub record Small (m : ℕ) (g : Operator) : Type 0 where
  pub a : nat_abs g.a ≤ m
  pub b : nat_abs g.b ≤ m
  pub c : nat_abs g.c ≤ m
  pub d : nat_abs g.d ≤ m
  pub ai : nat_abs g.ai ≤ m
  pub bi : nat_abs g.bi ≤ m
  pub ci : nat_abs g.ci ≤ m
  pub di : nat_abs g.di ≤ m

within-small : (m : ℕ) (g : Operator) → all_within (pos m) g ≡ true → Small m g
within-small m g h =
    let r = both_true _ _ h in
    let s = both_true _ _ r.0 in
    let t = both_true _ _ r.1 in
    let ab = both_true _ _ s.0 in
    let cd = both_true _ _ s.1 in
    let abi = both_true _ _ t.0 in
    let cdi = both_true _ _ t.1 in
    record {
      a = within-size m g.a ab.0;
      b = within-size m g.b ab.1;
      c = within-size m g.c cd.0;
      d = within-size m g.d cd.1;
      ai = within-size m g.ai abi.0;
      bi = within-size m g.bi abi.1;
      ci = within-size m g.ci cdi.0;
      di = within-size m g.di cdi.1;
    }

pub small-within : (m : ℕ) (g : Operator) → Small m g → all_within (pos m) g ≡ true
small-within m g h =
    rw (size-within m g.a h.a, size-within m g.b h.b, size-within m g.c h.c, size-within m g.d h.d, size-within m g.ai h.ai, size-within m g.bi h.bi, size-within m g.ci h.ci, size-within m g.di h.di) refl

-- ---- the whole test
equal-true : (x y : ℤ) → equal_z x y ≡ true → x ≡ y
equal-true x y h = let e = both_true (le_z x y) (le_z y x) h in ≼-antisym x y (record { le = subst T (sym e.0) tt }) (record { le = subst T (sym e.1) tt })

equal-refl : (x : ℤ) → equal_z x x ≡ true
equal-refl (pos n) = rw (le-leb n n (omega arith)) refl
equal-refl (negsuc n) = rw (le-leb n n (omega arith)) refl

-- two numbers are equal where their bits are
pub equal-bits : (w : Width) (x y : ℤ) → SFits w x → SFits w y → eqb (of_z w x) (of_z w y) ≡ equal_z x y
equal-bits w x y hx hy = go (equal_z x y) refl
  where
    go : (t : Bool) → equal_z x y ≡ t → eqb (of_z w x) (of_z w y) ≡ t
    go true e = eq-eqb (of_z w x) (of_z w y) (ap (of_z w) (equal-true x y e))
    go false e = ne_eqb (of_z w x) (of_z w y) λ h.
        let f : x ≡ y = sym (to_z-of_z hx) ∙ ap (to_z w) h ∙ to_z-of_z hy in
        let g : equal_z x y ≡ true = rw f (equal-refl y) in
        let z : ◌≡◌ {A = ℕ} 0 1 = cc in omega arith

pub record Accepted (g : Operator) : Type 0 where
  pub small : Small 100 g
  pub even : even_parity g ≡ true
  pub unit : det_whole g *ℤ det_whole g ≡ pos 1
  pub zero : det_root g ≡ pos 0

pub accepted : (g : Operator) → check_of g ≡ (Ok (tt {0})) → Accepted g
unfolding check_of in_range special
accepted g h = go (in_range g) (even_parity g) (special g) refl refl refl h
  where
    unit : (d : ℤ) → equal_z d (pos 1) || equal_z d (negsuc 0) ≡ true → d *ℤ d ≡ pos 1
    unit d h = elim (either_true (equal_z d (pos 1)) (equal_z d (negsuc 0)) h) [ inl e ↦ rw (equal-true d (pos 1) e) refl | inr e ↦ rw (equal-true d (negsuc 0) e) refl ]

    go : (r p s : Bool) → in_range g ≡ r → even_parity g ≡ p → special g ≡ s → cond r (cond p (cond s (Ok (tt {0})) (Err NotSpecial)) (Err OddParity)) (Err OutOfRange) ≡ (Ok (tt {0})) → Accepted g
    go true true true e f k h =
        let u = both_true (equal_z (det_whole g) (pos 1) || equal_z (det_whole g) (negsuc 0)) (equal_z (det_root g) (pos 0)) k in
        record { small = within-small 100 g e; even = f; unit = unit (det_whole g) u.0; zero = equal-true (det_root g) (pos 0) u.1 }
    go true true false e f k h = let z : ◌≡◌ {A = ℕ} 0 1 = cc in absurd (omega arith)
    go true false s e f k h = let z : ◌≡◌ {A = ℕ} 0 1 = cc in absurd (omega arith)
    go false p s e f k h = let z : ◌≡◌ {A = ℕ} 0 1 = cc in absurd (omega arith)
