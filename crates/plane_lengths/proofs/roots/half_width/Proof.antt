use Prim.Native.Nat.{◌*◌, ◌^◌, ◌≤◌}
use native.Mathlib.Nat.{mul-le-mul}
use native.Mathlib.Omega.{arith}
use borrow.Author.Rules.{rules}
use Rattle.plane_lengths.proofs.roots.half_width.Statement.{statement}
use Rattle.plane_lengths.proofs.roots.half_width.Tie as tie

product-size : (c : tie.Start) → c.args.s * c.args.f ≤ 1000000 * 2 ^ 39
product-size c = mul-le-mul c.requires.0 c.requires.1

mul-ceil-sqrt : tie.Need-overflow_mul-s
mul-ceil-sqrt c = omega (arith, product-size c)

sub-ceil-sqrt : tie.Need-overflow_sub-d
sub-ceil-sqrt c = search rules

add-ceil-sqrt : tie.Need-overflow_add-s
add-ceil-sqrt c = omega (arith, product-size c, c.requires.3)

div-ceil-sqrt : tie.Need-nonzero_div-s
div-ceil-sqrt c = search rules

ceil-sqrt-requires : tie.Need-ceil_sqrt-requires
ceil-sqrt-requires c κs = search rules

returns : tie.Need-returns
returns c = search rules

pub half_width_spec : {M : Type 1} → statement M
half_width_spec =
    tie.close
    (tie.spec mul-ceil-sqrt sub-ceil-sqrt add-ceil-sqrt div-ceil-sqrt ceil-sqrt-requires returns)
