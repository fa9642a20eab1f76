use mathlib.Core.Path.{◌≡◌, sym, ◌∙◌, ap}
use Prim.Native.Nat.{◌*◌, ◌^◌, ◌≤◌}
use native.Mathlib.Nat.{mul-le-mul}
use native.Mathlib.Omega.{arith}
use lib.IntN.{pos, nat_abs, ◌+ℤ◌, ◌*ℤ◌}
use mir.Syntax.{w64}
use mir.Facts.{to_z-of_z}
use borrow.Author.Rules.{rules}
use Rattle.integers.specs.lemmas.Size.{fits→size, back}
use Rattle.plane_lengths.specs.Products.{touches-is, touches-not, one-above, one_below}
use Rattle.plane_lengths.proofs.Casts.{widen_fits, widened}
use Rattle.plane_lengths.proofs.products.touches.Statement.{statement}
use Rattle.plane_lengths.proofs.products.touches.Tie as tie

returns : tie.Need-returns-then-w-lt1
returns c = let s = c in sym (touches-not (pos s.args.n) s.args.x s.args.y s.args.w (one_below s.args.w (rw (to_z-of_z s.ranges.w) at c.if-w-lt1.true)))

cast-abs : tie.Need-overflow_cast-w
cast-abs c = widen_fits tt c.ranges.w

abs-requires : tie.Need-abs-h-requires
abs-requires c κs = search rules

inner-requires : tie.Need-inner-requires
inner-requires c κs = search rules

abs-requires-2 : tie.Need-abs-f-requires
abs-requires-2 c κs = search rules

-- n², the squared length of (x, y) and w²
module _ (c : tie.After-abs-f) where
  abbrev s : tie.Start
  s = c.before.before.before.before

  w-is : c.abs-h.result ≡ nat_abs s.args.w
  w-is = rw (widened tt s.ranges.w) at c.abs-h.ensures

  f-is : c.abs-f.result ≡ nat_abs (s.args.x *ℤ s.args.x +ℤ s.args.y *ℤ s.args.y)
  f-is = c.abs-f.ensures ∙ ap nat_abs (back w64 c.inner.type_inv ∙ (rw (to_z-of_z s.ranges.x, to_z-of_z s.ranges.y) at c.inner.ensures.0))

  f-size : c.abs-f.result ≤ 2 ^ 31
  f-size = rw (c.abs-f.ensures, back w64 c.inner.type_inv) c.inner.ensures.1

  w-size : c.abs-h.result ≤ 2 ^ 31
  w-size = rw w-is (fits→size s.ranges.w)

  n-size : s.args.n ≤ 65535
  n-size = omega (arith, s.ranges.n)

  n-square : s.args.n * s.args.n ≤ 65535 * 65535
  n-square = mul-le-mul n-size n-size

mul-result : tie.Need-overflow_mul-result
mul-result c = omega (arith, n-square c)

mul-result-2 : tie.Need-overflow_mul-result-2
mul-result-2 c = omega (arith, mul-le-mul (n-square c) (f-size c))

mul-result-3 : tie.Need-overflow_mul-result-3
mul-result-3 c = omega (arith, mul-le-mul (w-size c) (w-size c))

returns-2 : tie.Need-returns
returns-2 c =
    let k = s c in
    touches-is k.args.n _ _ k.args.x k.args.y k.args.w (one-above k.args.w (rw (to_z-of_z k.ranges.w) at c.if-w-lt1.false)) (f-is c) (w-is c)

pub touches_spec : {M : Type 1} → statement M
touches_spec =
    tie.close
    (tie.spec
    returns
    cast-abs
    abs-requires
    inner-requires
    abs-requires-2
    mul-result
    mul-result-2
    mul-result-3
    returns-2)
