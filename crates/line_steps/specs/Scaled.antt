-- The problem after the shift and the scaling, the way back from its pairs, and the first pair from a place on.
use Rattle.std.specs.Prelude.{◌≡◌, refl, Bool, true, false, ◌⊎◌, ℕ, ◌^◌, ◌≤◌, ◌<◌, pos, ◌*ℤ◌, Option, Some, None}
use Rattle.integers.specs.Difference.{◌≺◌}
use Rattle.ring.specs.declared.RootTwo.{RootTwo}
use Rattle.ring.specs.RootTwo.{◌⊞◌, ◌⊠◌, conj, num}
use Rattle.line_rows.specs.declared.Band.{Band}
use Rattle.line_rows.specs.Row.{at}
use Rattle.line_rows.specs.Steps.{solved, shift_of, times_of, Even}
use Rattle.line_steps.specs.declared.Digits.{Digits}
use Rattle.line_steps.specs.declared.Scaled.{Scaled}
use Rattle.line_steps.specs.Line.{span, coordinate}
use Rattle.line_steps.specs.Narrow.{Wide, NotBefore, image, origin, first_of, second_of, rows_in}
use Rattle.line_steps.specs.Sized.{Sized, whole, size_of_unit}

-- the digit of 0: larger than any coordinate of a pair
abbrev pub half_of : Bool → ℕ
half_of true = 2 ^ 32
half_of false = 10001

-- a_min and a_max of the text: (I_l + J_l)/2 ≤ a ≤ (I_r + J_r)/2
abbrev pub rows_band : Band → Band → Band
rows_band f g = record { m = pos 2 *ℤ f.m *ℤ g.m; lo = num g.m ⊠ f.lo ⊞ num f.m ⊠ g.lo; hi = num g.m ⊠ f.hi ⊞ num f.m ⊠ g.hi }

-- both steps, for an α₀ and a power of λ
abbrev pub scaled_of : Band → Band → Bool → Bool → RootTwo → RootTwo → Scaled
scaled_of s t thin turned o u = record {
  thin = thin;
  turned = turned;
  half = half_of thin;
  o = o;
  u = u;
  t = shift_of t (conj o);
  f = first_of s o u;
  g = second_of t o u;
  rows = rows_band (first_of s o u) (second_of t o u);
}

pub scaled-by : (s t : Band) (thin turned : Bool) (o u : RootTwo) {h : ℕ} {x f g w : Band} → h ≡ half_of thin → x ≡ shift_of t (conj o) → f ≡ first_of s o u → g ≡ second_of t o u → w ≡ rows_band (first_of s o u) (second_of t o u)
    → ◌≡◌ {A = Scaled} (record { thin = thin; turned = turned; half = h; o = o; u = u; t = x; f = f; g = g; rows = w }) (scaled_of s t thin turned o u)
scaled-by s t thin turned o u a b c d e = λ i. record { thin = thin; turned = turned; half = a i; o = o; u = u; t = b i; f = c i; g = d i; rows = e i }

-- a power of λ: λ⁰, or one at which the strip is at most 2 wide
pub record Chosen (s : Band) (thin : Bool) (u : RootTwo) : Type 0 where
  pub even : Even u
  pub size : Sized size_of_unit u
  pub plain : thin ≡ false → u ≡ at (pos 1) (pos 0)
  pub wide : (u ≡ at (pos 1) (pos 0)) ⊎ Wide (pos 2) (times_of s (conj u))

pub record Stepped (s t : Band) (thin turned : Bool) (c : Scaled) : Type 0 where
  pub is : c ≡ scaled_of s t thin turned c.o c.u
  pub origin-size : Sized whole c.o
  pub origin-plain : thin ≡ false → c.o ≡ at (pos 0) (pos 0)
  pub unit : Chosen (shift_of t (conj c.o)) thin c.u

-- ---- the way back
abbrev pub back_by : Bool → RootTwo → RootTwo
back_by true z = conj z
back_by false z = z

pub back-turned : (b : Bool) (z : RootTwo) → b ≡ true → conj z ≡ back_by b z
back-turned b z e = rw e refl

pub back-straight : (b : Bool) (z : RootTwo) → b ≡ false → z ≡ back_by b z
back-straight b z e = rw e refl

abbrev pub back_of : Scaled → RootTwo → RootTwo
back_of c z = back_by c.turned (origin c.o c.u z)

-- and the way there
abbrev pub there_of : Scaled → RootTwo → RootTwo
there_of c w = image c.o c.u (back_by c.turned w)

-- the rows a' of the pairs whose a has a digit from a on
abbrev pub rows_from : Scaled → ℕ → Band
rows_from c a = rows_in c.t c.g c.o c.u (coordinate a) (coordinate 20000)

-- ---- places, by their digits
pub record Near (p : Digits) : Type 0 where
  pub a_in : p.a ≤ span
  pub b-in : p.b ≤ span

pub record Inside (p : Digits) : Type 0 where
  pub a_in : p.a < span
  pub b-in : p.b < span

abbrev pub point_of : Digits → RootTwo
point_of p = at (coordinate p.a) (coordinate p.b)

-- by a, then b
abbrev pub Before : RootTwo → RootTwo → Type 0
Before w v = (w.p ≺ v.p) ⊎ ((w.p ≡ v.p) × (w.q ≺ v.q))

-- ---- the first pair that is not before p
pub record FoundAt (c : Scaled) (p q : Digits) : Type 0 where
  pub inside : Inside q
  pub pair : RootTwo
  pub solves : solved c.f c.g pair ≡ true
  pub is : back_of c pair ≡ point_of q
  pub from : NotBefore (point_of p) (point_of q)
  pub none : (z : RootTwo) → solved c.f c.g z ≡ true → NotBefore (point_of p) (back_of c z) → Before (back_of c z) (point_of q) → ⊥

abbrev pub Found : Scaled → Digits → Option Digits → Type 0
Found c p (Some q) = FoundAt c p q
Found c p None = (z : RootTwo) → solved c.f c.g z ≡ true → NotBefore (point_of p) (back_of c z) → ⊥
