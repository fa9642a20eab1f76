use mathlib.Core.Path.{◌≡◌, refl}
use Prim.Native.Nat.{◌*◌, ◌^◌, ◌≤◌}
use native.Mathlib.Omega.{arith}
use lib.IntN.{ℤ, pos, nat_abs, ◌-ℤ◌, ◌*ℤ◌}
use mir.Syntax.{w64}
use mir.Val.{SFits, to_z}
use mir.Facts.{to_z-of_z, to_z_pos}
use borrow.Author.Rules.{rules}
use Rattle.integers.specs.lemmas.Size.{size--, size-*≤, size→fits}
use Rattle.plane_lengths.proofs.Casts.{widen_fits, widened}
use Rattle.plane_lengths.proofs.products.less.Statement.{statement}
use Rattle.plane_lengths.proofs.products.less.Tie as tie

-- the product and the difference
module _ (c : tie.Start) where
  abbrev x : ℤ
  x = pos c.args.p *ℤ c.args.w

  m-is : to_z w64 c.args.m ≡ pos c.args.m
  m-is = to_z_pos w64 (omega (arith, c.requires.0))

  p-is : to_z w64 c.args.p ≡ pos c.args.p
  p-is = to_z_pos w64 (omega (arith, c.requires.1))

  x-size : nat_abs x ≤ 2 ^ 41 * 1000000
  x-size = size-*≤ (pos c.args.p) c.args.w (2 ^ 41) 1000000 c.requires.1 c.requires.2

  x_fits : SFits w64 x
  x_fits = size→fits (omega (arith, x-size))

  fits : SFits w64 (pos c.args.m -ℤ x)
  fits = size→fits (omega (arith, size-- (pos c.args.m) x, x-size, c.requires.0))

cast-result : tie.Need-overflow_cast-result
cast-result c = search rules

cast-result-2 : tie.Need-overflow_cast-result-2
cast-result-2 c = search rules

cast-result-3 : tie.Need-overflow_cast-result-3
cast-result-3 c = widen_fits tt c.ranges.w

mul-result : tie.Need-overflow_mul-result
mul-result c = rw (p-is c, widened tt c.ranges.w) (x_fits c)

sub-result : tie.Need-overflow_sub-result
sub-result c = rw (m-is c, p-is c, widened tt c.ranges.w, to_z-of_z (x_fits c)) (fits c)

returns : tie.Need-returns
returns c = rw (m-is c, p-is c, widened tt c.ranges.w, to_z-of_z (x_fits c), to_z-of_z (fits c)) refl

pub less_spec : {M : Type 1} → statement M
less_spec = tie.close (tie.spec cast-result cast-result-2 cast-result-3 mul-result sub-result returns)
