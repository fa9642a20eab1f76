use mathlib.Core.Path.{◌≡◌, ◌∙◌}
use Prim.Native.Nat.{◌^◌, ◌≤◌}
use native.Mathlib.Omega.{arith}
use lib.IntN.{nat_abs, ◌-ℤ◌, ◌*ℤ◌}
use mir.Syntax.{w64}
use mir.Val.{SFits, to_z, of_z}
use mir.Facts.{to_z-of_z, sfits_widen}
use borrow.Author.Rules.{rules}
use Rattle.integers.specs.lemmas.Size.{size--, size-*≤, size→fits, fits→size, back}
use Rattle.plane_estimates.proofs.fraction.cross.Statement.{statement}
use Rattle.plane_estimates.proofs.fraction.cross.Tie as tie

cast-product : tie.Need-overflow_cast-y
cast-product c = rw (to_z-of_z c.ranges.y) (sfits_widen tt c.ranges.y)

product-requires : tie.Need-product-requires
product-requires c κs = search rules

cast-product-2 : tie.Need-overflow_cast-x
cast-product-2 c = let h = c.ranges.x in rw (to_z-of_z h) (sfits_widen tt h)

product-requires-2 : tie.Need-product-requires-2
product-requires-2 c κs = search rules

fst-is : (c : tie.After-product) → let a = c.args in to_z w64 (of_z w64 c.product.result) ≡ a.u *ℤ a.y
fst-is c = let f = c.ranges in back w64 c.product.type_inv ∙ (rw (to_z-of_z f.u, to_z-of_z f.y, to_z-of_z (sfits_widen tt f.y)) at c.product.ensures)

snd-is : (c : tie.After-product-2) → let a = c.args in to_z w64 (of_z w64 c.product-2.result) ≡ a.v *ℤ a.x
snd-is c = let f = c.ranges in back w64 c.product-2.type_inv ∙ (rw (to_z-of_z f.v, to_z-of_z f.x, to_z-of_z (sfits_widen tt f.x)) at c.product-2.ensures)

size : (c : tie.After-product-2) → let a = c.args in nat_abs (a.u *ℤ a.y -ℤ a.v *ℤ a.x) ≤ 2 ^ 31
size c =
    let a = c.args in
    let f = c.ranges in
    omega (arith, size-- (a.u *ℤ a.y) (a.v *ℤ a.x), size-*≤ a.u a.y 32768 32768 (fits→size f.u) (fits→size f.y), size-*≤ a.v a.x 32768 32768 (fits→size f.v) (fits→size f.x))

fits : (c : tie.After-product-2) → let a = c.args in SFits w64 (a.u *ℤ a.y -ℤ a.v *ℤ a.x)
fits c = size→fits (omega (arith, size c))

sub-abs : tie.Need-overflow_sub-product
sub-abs c = rw (fst-is c.before, snd-is c) (fits c)

abs-requires : tie.Need-abs-requires
abs-requires c κs = search rules

returns : tie.Need-returns
returns c = let k = c.before in rw (c.abs.ensures, fst-is k.before, snd-is k, to_z-of_z (fits k)) (size k)

pub cross_spec : {M : Type 1} → statement M
cross_spec =
    tie.close
    (tie.spec
    cast-product
    product-requires
    cast-product-2
    product-requires-2
    sub-abs
    abs-requires
    returns)
