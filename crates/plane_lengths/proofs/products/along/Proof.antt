use mathlib.Core.Path.{◌≡◌, refl}
use Prim.Native.Nat.{◌*◌, ◌^◌, ◌≤◌}
use native.Mathlib.Omega.{arith}
use lib.IntN.{ℤ, pos, nat_abs, ◌+ℤ◌, ◌*ℤ◌}
use mir.Syntax.{w64}
use mir.Val.{SFits, to_z}
use mir.Facts.{to_z-of_z, to_z_pos}
use borrow.Author.Rules.{rules}
use Rattle.integers.specs.lemmas.Size.{size-+, size-*≤, size→fits, fits→size}
use Rattle.plane_lengths.proofs.Casts.{widen_fits, widened}
use Rattle.plane_lengths.proofs.products.along.Statement.{statement}
use Rattle.plane_lengths.proofs.products.along.Tie as tie

-- both products and their sum
module _ (c : tie.Start) where
  abbrev x : ℤ
  x = pos c.args.q *ℤ c.args.u

  abbrev y : ℤ
  y = pos c.args.p *ℤ c.args.z

  q-is : to_z w64 c.args.q ≡ pos c.args.q
  q-is = to_z_pos w64 (omega (arith, c.requires.0))

  p-is : to_z w64 c.args.p ≡ pos c.args.p
  p-is = to_z_pos w64 (omega (arith, c.requires.1))

  x-size : nat_abs x ≤ 256 * 32768
  x-size = size-*≤ (pos c.args.q) c.args.u 256 32768 c.requires.0 (fits→size c.ranges.u)

  y-size : nat_abs y ≤ 2 ^ 41 * 32768
  y-size = size-*≤ (pos c.args.p) c.args.z (2 ^ 41) 32768 c.requires.1 (fits→size c.ranges.z)

  x_fits : SFits w64 x
  x_fits = size→fits (omega (arith, x-size))

  y-fits : SFits w64 y
  y-fits = size→fits (omega (arith, y-size))

  sum_fits : SFits w64 (x +ℤ y)
  sum_fits = size→fits (omega (arith, size-+ x y, x-size, y-size))

cast-result : tie.Need-overflow_cast-result
cast-result c = search rules

cast-result-2 : tie.Need-overflow_cast-result-2
cast-result-2 c = widen_fits tt c.ranges.u

mul-result : tie.Need-overflow_mul-result
mul-result c = rw (q-is c, widened tt c.ranges.u) (x_fits c)

cast-result-3 : tie.Need-overflow_cast-result-3
cast-result-3 c = search rules

cast-result-4 : tie.Need-overflow_cast-result-4
cast-result-4 c = widen_fits tt c.ranges.z

mul-result-2 : tie.Need-overflow_mul-result-2
mul-result-2 c = rw (p-is c, widened tt c.ranges.z) (y-fits c)

add-result : tie.Need-overflow_add-result
add-result c = rw (q-is c, widened tt c.ranges.u, to_z-of_z (x_fits c), p-is c, widened tt c.ranges.z, to_z-of_z (y-fits c)) (sum_fits c)

returns : tie.Need-returns
returns c = rw (q-is c, widened tt c.ranges.u, to_z-of_z (x_fits c), p-is c, widened tt c.ranges.z, to_z-of_z (y-fits c), to_z-of_z (sum_fits c)) refl

pub along_spec : {M : Type 1} → statement M
along_spec =
    tie.close
    (tie.spec
    cast-result
    cast-result-2
    mul-result
    cast-result-3
    cast-result-4
    mul-result-2
    add-result
    returns)
