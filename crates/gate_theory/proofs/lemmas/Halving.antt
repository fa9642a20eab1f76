-- Two points as x + y and x − y, with x and y found by halving or by dividing by √2, and the squares and cross sums of such points.
use Rattle.std.specs.Prelude.{◌≡◌, refl, Bool, true, false, not, [], ◌∷◌, ℤ, pos, ◌+ℤ◌, ◌-ℤ◌, ◌*ℤ◌}
use Rattle.std.proofs.Common.{sym, ◌∙◌, ap, ap₂, arith}
use Rattle.integers.specs.Difference.{by⊖, zz}
use Rattle.integers.specs.Parity.{even, double_half}
use Rattle.integers.specs.lemmas.Ring.{poly}
use Rattle.integers.specs.lemmas.Ring as R
use Rattle.integers.specs.lemmas.RingZ.{polyZ, by_ring}
use Rattle.ring.specs.declared.Point.{Point}
use Rattle.ring.specs.Point.{◌+ω◌, ◌-ω◌, ◌*ω◌, numω, √2ω, √2ω_sq, ringω, ext, sum-parts}
use Rattle.ring.specs.Point.Divide.{halves, divide_even, divide_whole, times-√2, times-injective}
use Rattle.gate_theory.specs.Bits.{none-split, rest-split, rest, none}
use Rattle.gate_theory.specs.Odd.{odd?}
use Rattle.gate_theory.specs.Points.{turn, back, halved, N, F, minus_parts}
use Rattle.gate_theory.specs.Parities.{odd--, parities}

-- U is x + y and Z is x − y
pub record Halves (U Z x y : Point) : Type 0 where
  pub sum : U ≡ x +ω y
  pub difference : Z ≡ x -ω y

even-of : (z : ℤ) → odd? z ≡ false → even z ≡ true
even-of z e = back-not (even z) e
  where
    back-not : (b : Bool) → not b ≡ false → b ≡ true
    back-not true e = refl
    back-not false e = sym e

-- ---- all even: x = p/2
pub halved-twice : (p : Point) → none (parities p) ≡ true → p ≡ halved p +ω halved p
halved-twice p e =
    let f = none-split (parities p) e in
    sym (sum-parts (halved p) (halved p) ∙ ext (double_half p.a (even-of p.a f.0)) (double_half p.b (even-of p.b f.1)) (double_half p.c (even-of p.c f.2)) (double_half p.d (even-of p.d f.3)))

pub by_two : (u z x y : Point) → u +ω z ≡ x +ω x → u -ω z ≡ y +ω y → Halves u z x y
by_two u z x y e f =
    let e' = sym (sum-parts u z) ∙ e ∙ sum-parts x x in
    let f' = sym (minus_parts u z) ∙ f ∙ sum-parts y y in
    let a = lin u.a z.a x.a y.a (ap (λ t. t.a) e') (ap (λ t. t.a) f') in
    let b = lin u.b z.b x.b y.b (ap (λ t. t.b) e') (ap (λ t. t.b) f') in
    let c = lin u.c z.c x.c y.c (ap (λ t. t.c) e') (ap (λ t. t.c) f') in
    let d = lin u.d z.d x.d y.d (ap (λ t. t.d) e') (ap (λ t. t.d) f') in
    record { sum = ext a.0 b.0 c.0 d.0 ∙ sym (sum-parts x y); difference = ext a.1 b.1 c.1 d.1 ∙ sym (minus_parts x y) }
  where
    lin : (u z x y : ℤ) → u +ℤ z ≡ x +ℤ x → u -ℤ z ≡ y +ℤ y → (u ≡ x +ℤ y) × (z ≡ x -ℤ y)
    lin = by⊖ _ λ u u'. by⊖ _ λ z z'. by⊖ _ λ x x'. by⊖ _ λ y y'. simp zz (omega arith)

-- ---- √2 divides: x = p/√2
pub over-√2 : (p : Point) → rest (parities p) ≡ true → halves p *ω √2ω ≡ p
over-√2 p e =
    let f = rest-split (parities p) e in
    divide_whole p (halves p) (divide_even p (even-of (p.a -ℤ p.c) (odd-- p.a p.c ∙ f.0)) (even-of (p.b -ℤ p.d) (odd-- p.b p.d ∙ f.1)))

pub by-√2 : (u z x y : Point) → x *ω √2ω ≡ u +ω z → y *ω √2ω ≡ u -ω z → Halves (u *ω √2ω) (z *ω √2ω) x y
by-√2 u z x y e f = record { sum = times-injective _ _ (twice u ∙ plus-minus u z ∙ ap₂ ◌+ω◌ (sym e) (sym f) ∙ out x y); difference = times-injective _ _ (twice z ∙ minus_minus u z ∙ ap₂ ◌-ω◌ (sym e) (sym f) ∙ out-minus x y) }
  where
    twice : (v : Point) → v *ω √2ω *ω √2ω ≡ v *ω numω (pos 2)
    twice v = assoc v √2ω ∙ ap (λ t. v *ω t) √2ω_sq
      where
        assoc : (v s : Point) → v *ω s *ω s ≡ v *ω (s *ω s)
        assoc v s = R.by_ring ringω (v ∷ s ∷ []) (search poly depth 20) refl

    plus-minus : (u z : Point) → u *ω numω (pos 2) ≡ (u +ω z) +ω (u -ω z)
    plus-minus u z = R.by_ring ringω (u ∷ z ∷ []) (search poly depth 20) refl

    minus_minus : (u z : Point) → z *ω numω (pos 2) ≡ (u +ω z) -ω (u -ω z)
    minus_minus u z = R.by_ring ringω (u ∷ z ∷ []) (search poly depth 20) refl

    out : (x y : Point) → x *ω √2ω +ω y *ω √2ω ≡ (x +ω y) *ω √2ω
    out x y = R.by_ring ringω (x ∷ y ∷ √2ω ∷ []) (search poly depth 20) refl

    out-minus : (x y : Point) → x *ω √2ω -ω y *ω √2ω ≡ (x -ω y) *ω √2ω
    out-minus x y = R.by_ring ringω (x ∷ y ∷ √2ω ∷ []) (search poly depth 20) refl

-- ---- x + y and x − y have twice the squares and twice the cross sum of x and y; √2 v twice those of v; ω v the same
pub N-halves : (U Z x y : Point) → Halves U Z x y → N U +ℤ N Z ≡ pos 2 *ℤ (N x +ℤ N y)
N-halves U Z x y h = ap₂ (λ v w. N v +ℤ N w) (h.sum ∙ sum-parts x y) (h.difference ∙ minus_parts x y) ∙ by_ring (x.a ∷ x.b ∷ x.c ∷ x.d ∷ y.a ∷ y.b ∷ y.c ∷ y.d ∷ []) (search polyZ depth 60) refl

pub F-halves : (U Z x y : Point) → Halves U Z x y → F U +ℤ F Z ≡ pos 2 *ℤ (F x +ℤ F y)
F-halves U Z x y h = ap₂ (λ v w. F v +ℤ F w) (h.sum ∙ sum-parts x y) (h.difference ∙ minus_parts x y) ∙ by_ring (x.a ∷ x.b ∷ x.c ∷ x.d ∷ y.a ∷ y.b ∷ y.c ∷ y.d ∷ []) (search polyZ depth 60) refl

pub N-√2 : (v : Point) → N (v *ω √2ω) ≡ pos 2 *ℤ N v
N-√2 v = ap N (times-√2 v) ∙ by_ring (v.a ∷ v.b ∷ v.c ∷ v.d ∷ []) (search polyZ depth 60) refl

pub F-√2 : (v : Point) → F (v *ω √2ω) ≡ pos 2 *ℤ F v
F-√2 v = ap F (times-√2 v) ∙ by_ring (v.a ∷ v.b ∷ v.c ∷ v.d ∷ []) (search polyZ depth 60) refl

pub N-back : (v : Point) → N (back v) ≡ N v
N-back v = by_ring (v.a ∷ v.b ∷ v.c ∷ v.d ∷ []) (search polyZ depth 60) refl

pub F-back : (v : Point) → F (back v) ≡ F v
F-back v = by_ring (v.a ∷ v.b ∷ v.c ∷ v.d ∷ []) (search polyZ depth 60) refl

pub N-turn : (v : Point) → N (turn v) ≡ N v
N-turn v = by_ring (v.a ∷ v.b ∷ v.c ∷ v.d ∷ []) (search polyZ depth 60) refl

pub F-turn : (v : Point) → F (turn v) ≡ F v
F-turn v = by_ring (v.a ∷ v.b ∷ v.c ∷ v.d ∷ []) (search polyZ depth 60) refl
