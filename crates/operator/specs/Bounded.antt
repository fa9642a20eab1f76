-- Sizes: of a point that has an image, of what equations 45 to 48 compute on the way, and of an operator's eight numbers.
use Rattle.std.specs.Prelude.{◌≡◌, ℕ, ◌^◌, ◌≤◌, ℤ, neg_ℤ, nat_abs, ◌+ℤ◌, ◌-ℤ◌, ◌*ℤ◌}
use Rattle.std.proofs.Common.{arith, SFits, to_z, of_z, to_z-of_z}
use Rattle.std.specs.Int.{w16, w64}
use Rattle.integers.specs.Parity.{half}
use Rattle.integers.specs.lemmas.Size.{size-neg, size-+, size--, fits→size, size-*≤, size→fits}
use Rattle.operator.specs.declared.Operator.{Operator}
use Rattle.operator.specs.declared.WidePoint.{WidePoint}
use Rattle.operator.specs.lemmas.Halves.{half-size}

abbrev pub Bounded : ℕ → ℤ → Type 0
Bounded k z = nat_abs z ≤ 2 ^ k

-- a point with coordinates up to 2^40
pub record Near (v : WidePoint) : Type 0 where
  pub a : nat_abs v.a ≤ 2 ^ 40
  pub b : nat_abs v.b ≤ 2 ^ 40
  pub c : nat_abs v.c ≤ 2 ^ 40
  pub d : nat_abs v.d ≤ 2 ^ 40

-- the products and sums of equations 45 to 48
pub record RowFits (p q r s : ℤ) (v : WidePoint) : Type 0 where
  pub pd : SFits w64 (p *ℤ v.d)
  pub qb : SFits w64 (q *ℤ v.b)
  pub rc : SFits w64 (r *ℤ v.c)
  pub sa : SFits w64 (s *ℤ v.a)
  pub two : SFits w64 (p *ℤ v.d +ℤ q *ℤ v.b)
  pub three : SFits w64 (p *ℤ v.d +ℤ q *ℤ v.b +ℤ r *ℤ v.c)
  pub four : SFits w64 (p *ℤ v.d +ℤ q *ℤ v.b +ℤ r *ℤ v.c +ℤ s *ℤ v.a)

pub row_fits : (p q r s : ℤ) (v : WidePoint) → SFits w16 p → SFits w16 q → Bounded 16 r → Bounded 16 s → Near v → RowFits p q r s v
row_fits p q r s v hp hq hr hs n =
    let pd = size-*≤ p v.d 32768 (2 ^ 40) (fits→size hp) n.d in
    let qb = size-*≤ q v.b 32768 (2 ^ 40) (fits→size hq) n.b in
    let rc = size-*≤ r v.c 65536 (2 ^ 40) hr n.c in
    let sa = size-*≤ s v.a 65536 (2 ^ 40) hs n.a in
    let two = size-+ (p *ℤ v.d) (q *ℤ v.b) in
    let three = size-+ (p *ℤ v.d +ℤ q *ℤ v.b) (r *ℤ v.c) in
    let four = size-+ (p *ℤ v.d +ℤ q *ℤ v.b +ℤ r *ℤ v.c) (s *ℤ v.a) in
    record { pd = size→fits (omega arith); qb = size→fits (omega arith); rc = size→fits (omega arith); sa = size→fits (omega arith); two = size→fits (omega arith); three = size→fits (omega arith); four = size→fits (omega arith) }

pub halves-bounded : (x y z w : ℤ) → SFits w16 x → SFits w16 y → SFits w16 z → SFits w16 w → Bounded 16 (half (x +ℤ y +ℤ z +ℤ w)) × Bounded 16 (half (x +ℤ y -ℤ z -ℤ w))
halves-bounded x y z w hx hy hz hw =
    let sx = fits→size hx in
    let sy = fits→size hy in
    let sz = fits→size hz in
    let sw = fits→size hw in
    (omega (arith, half-size x y z w), omega (arith, half-size x y (neg_ℤ z) (neg_ℤ w), size-neg z, size-neg w))

-- x y − z w, of which the determinant's two numbers are sums
pub crossed-size : {x y z w : ℤ} → SFits w16 x → SFits w16 y → SFits w16 z → SFits w16 w → nat_abs (x *ℤ y -ℤ z *ℤ w) ≤ 2 ^ 31
crossed-size {x} {y} {z} {w} hx hy hz hw = omega (arith, size-- (x *ℤ y) (z *ℤ w), size-*≤ x y (2 ^ 15) (2 ^ 15) (fits→size hx) (fits→size hy), size-*≤ z w (2 ^ 15) (2 ^ 15) (fits→size hz) (fits→size hw))

pub record Fits16 (g : Operator) : Type 0 where
  pub a : SFits w16 g.a
  pub b : SFits w16 g.b
  pub c : SFits w16 g.c
  pub d : SFits w16 g.d
  pub ai : SFits w16 g.ai
  pub bi : SFits w16 g.bi
  pub ci : SFits w16 g.ci
  pub di : SFits w16 g.di

-- they are read back from their bits
pub record Bits16 (g : Operator) : Type 0 where
  pub a : to_z w16 (of_z w16 g.a) ≡ g.a
  pub b : to_z w16 (of_z w16 g.b) ≡ g.b
  pub c : to_z w16 (of_z w16 g.c) ≡ g.c
  pub d : to_z w16 (of_z w16 g.d) ≡ g.d
  pub ai : to_z w16 (of_z w16 g.ai) ≡ g.ai
  pub bi : to_z w16 (of_z w16 g.bi) ≡ g.bi
  pub ci : to_z w16 (of_z w16 g.ci) ≡ g.ci
  pub di : to_z w16 (of_z w16 g.di) ≡ g.di

pub bits16 : {g : Operator} → Fits16 g → Bits16 g
bits16 f = record { a = to_z-of_z f.a; b = to_z-of_z f.b; c = to_z-of_z f.c; d = to_z-of_z f.d; ai = to_z-of_z f.ai; bi = to_z-of_z f.bi; ci = to_z-of_z f.ci; di = to_z-of_z f.di }
