-- A point of four 64-bit numbers as a point of 32-bit ones, where all four fit.
use Rattle.std.specs.Prelude.{◌≡◌, refl, Bool, true, false, cond, ℕ, ◌^◌, ltb, ℤ, Option, Some, None}
use Rattle.std.proofs.Common.{subst, arith, ltb-true, SFits}
use Rattle.std.specs.Int.Signed.{mag}
use Rattle.std.specs.Int.{w32}
use Rattle.integers.specs.Narrow.{narrow_of, narrow_fits}
use Rattle.ring.specs.declared.Point.{Point}
use Rattle.operator.specs.declared.WidePoint.{WidePoint}
use Rattle.operator.specs.Operator.{wide}

abbrev pub four : Option ℤ → Option ℤ → Option ℤ → Option ℤ → Option Point
four (Some a) (Some b) (Some c) (Some d) = Some (record { a = a; b = b; c = c; d = d })
four (Some a) (Some b) (Some c) None = None
four (Some a) (Some b) None d = None
four (Some a) None c d = None
four None b c d = None

unfoldable pub narrowed : WidePoint → Option Point
narrowed w = four (narrow_of w.a) (narrow_of w.b) (narrow_of w.c) (narrow_of w.d)

-- ---- one number
pub narrow_is : (z x : ℤ) → narrow_of z ≡ Some x → (z ≡ x) × SFits w32 x
unfolding narrow_of
narrow_is z x e = go (ltb (mag z) (2 ^ 31)) refl e
  where
    go : (b : Bool) → ltb (mag z) (2 ^ 31) ≡ b → cond b (Some z) None ≡ Some x → (z ≡ x) × SFits w32 x
    go true h f = let k : z ≡ x = cc in (k, subst (SFits w32) k (record { sfits = ltb-true (mag z) (2 ^ 31) h }))
    go false h f = let w : ◌≡◌ {A = ℕ} 0 1 = cc in absurd (omega arith)

-- ---- all four
pub record Fits (v : Point) : Type 0 where
  pub a : SFits w32 v.a
  pub b : SFits w32 v.b
  pub c : SFits w32 v.c
  pub d : SFits w32 v.d

-- a point that fits is what it was
pub narrowed-is : (w : WidePoint) (v : Point) → narrowed w ≡ Some v → wide w ≡ v
unfolding narrowed
narrowed-is w v e = go (narrow_of w.a) (narrow_of w.b) (narrow_of w.c) (narrow_of w.d) refl refl refl refl e
  where
    go : (a b c d : Option ℤ) → narrow_of w.a ≡ a → narrow_of w.b ≡ b → narrow_of w.c ≡ c → narrow_of w.d ≡ d → four a b c d ≡ Some v → wide w ≡ v
    go (Some a) (Some b) (Some c) (Some d) ea eb ec ed e =
        let (a, _) = narrow_is _ _ ea in
        let (b, _) = narrow_is _ _ eb in
        let (c, _) = narrow_is _ _ ec in
        let (d, _) = narrow_is _ _ ed in
        cc
    go (Some a) (Some b) (Some c) None ea eb ec ed e = let u : ◌≡◌ {A = ℕ} 0 1 = cc in absurd (omega arith)
    go (Some a) (Some b) None d ea eb ec ed e = let u : ◌≡◌ {A = ℕ} 0 1 = cc in absurd (omega arith)
    go (Some a) None c d ea eb ec ed e = let u : ◌≡◌ {A = ℕ} 0 1 = cc in absurd (omega arith)
    go None b c d ea eb ec ed e = let u : ◌≡◌ {A = ℕ} 0 1 = cc in absurd (omega arith)

-- and one that does not fit has a number that does not
pub narrowed-wide : (w : WidePoint) → narrowed w ≡ None → Fits (wide w) → ⊥
unfolding narrowed
narrowed-wide w e f =
    let g : narrowed w ≡ Some (wide w) = rw (narrow_fits w.a f.a.sfits, narrow_fits w.b f.b.sfits, narrow_fits w.c f.c.sfits, narrow_fits w.d f.d.sfits) refl in
    let u : ◌≡◌ {A = ℕ} 0 1 = cc in
    omega arith
