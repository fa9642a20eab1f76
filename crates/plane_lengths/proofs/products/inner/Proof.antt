use mathlib.Core.Path.{◌≡◌, refl, ◌∙◌}
use Prim.Native.Nat.{◌^◌, ◌≤◌}
use native.Mathlib.Omega.{arith}
use lib.IntN.{nat_abs, ◌+ℤ◌, ◌*ℤ◌}
use mir.Syntax.{w64}
use mir.Val.{SFits, to_z, of_z}
use mir.Facts.{to_z-of_z, sfits_widen}
use borrow.Author.Rules.{rules}
use Rattle.integers.specs.lemmas.Size.{size-+, size-*≤, size→fits, fits→size, back}
use Rattle.plane_lengths.proofs.products.inner.Statement.{statement}
use Rattle.plane_lengths.proofs.products.inner.Tie as tie

cast-product : tie.Need-overflow_cast-x
cast-product c = rw (to_z-of_z c.ranges.x) (sfits_widen tt c.ranges.x)

product-requires : tie.Need-product-requires
product-requires c κs = search rules

cast-product-2 : tie.Need-overflow_cast-y
cast-product-2 c = let h = c.ranges.y in rw (to_z-of_z h) (sfits_widen tt h)

product-requires-2 : tie.Need-product-requires-2
product-requires-2 c κs = search rules

fst-is : (c : tie.After-product) → let a = c.args in to_z w64 (of_z w64 c.product.result) ≡ a.u *ℤ a.x
fst-is c = let f = c.ranges in back w64 c.product.type_inv ∙ (rw (to_z-of_z f.u, to_z-of_z f.x, to_z-of_z (sfits_widen tt f.x)) at c.product.ensures)

snd-is : (c : tie.After-product-2) → let a = c.args in to_z w64 (of_z w64 c.product-2.result) ≡ a.v *ℤ a.y
snd-is c = let f = c.ranges in back w64 c.product-2.type_inv ∙ (rw (to_z-of_z f.v, to_z-of_z f.y, to_z-of_z (sfits_widen tt f.y)) at c.product-2.ensures)

size : (c : tie.After-product-2) → let a = c.args in nat_abs (a.u *ℤ a.x +ℤ a.v *ℤ a.y) ≤ 2 ^ 31
size c =
    let a = c.args in
    let f = c.ranges in
    omega (arith, size-+ (a.u *ℤ a.x) (a.v *ℤ a.y), size-*≤ a.u a.x 32768 32768 (fits→size f.u) (fits→size f.x), size-*≤ a.v a.y 32768 32768 (fits→size f.v) (fits→size f.y))

fits : (c : tie.After-product-2) → let a = c.args in SFits w64 (a.u *ℤ a.x +ℤ a.v *ℤ a.y)
fits c = size→fits (omega (arith, size c))

add-result : tie.Need-overflow_add-result
add-result c = rw (fst-is c.before, snd-is c) (fits c)

returns : tie.Need-returns
returns c = rw (fst-is c.before, snd-is c, to_z-of_z (fits c)) (refl, size c)

pub inner_spec : {M : Type 1} → statement M
inner_spec =
    tie.close
    (tie.spec cast-product product-requires cast-product-2 product-requires-2 add-result returns)
