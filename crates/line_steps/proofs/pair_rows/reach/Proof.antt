use mathlib.Core.Path.{◌≡◌, refl, ◌∙◌}
use Prim.Native.Nat.{◌≤◌}
use native.Mathlib.Omega.{arith}
use lib.IntN.{pos, nat_abs, ◌-ℤ◌, ◌*ℤ◌}
use mir.Syntax.{w64}
use mir.Val.{SFits, to_z, of_z}
use mir.Facts.{to_z-of_z}
use Rattle.integers.specs.lemmas.Size.{size--, size-*≤, size→fits, back}
use Rattle.line_steps.specs.Line as Line
use Rattle.line_steps.specs.Sized.{shifted, coordinate-size}
use Rattle.line_steps.proofs.pair_rows.reach.Statement.{statement}
use Rattle.line_steps.proofs.pair_rows.reach.Tie as tie

double-size : (s : tie.Start) → nat_abs (pos 2 *ℤ s.args.m) ≤ 400
double-size s = size-*≤ (pos 2) s.args.m 2 200 (omega arith) s.requires.0

double : (s : tie.Start) → SFits w64 (pos 2 *ℤ s.args.m)
double s = size→fits (omega (arith, double-size s))

module _ (s : tie.Start) where
  less-size : nat_abs (Line.coordinate s.args.t -ℤ s.args.p) ≤ 62769
  less-size = omega (arith, size-- (Line.coordinate s.args.t) s.args.p, coordinate-size 10000 s.args.t 30001 (omega (arith, s.requires.2)), s.requires.1)

  less : SFits w64 (Line.coordinate s.args.t -ℤ s.args.p)
  less = size→fits (omega (arith, less-size))

  product-size : nat_abs (pos 2 *ℤ s.args.m *ℤ (Line.coordinate s.args.t -ℤ s.args.p)) ≤ shifted
  product-size = omega (arith, size-*≤ (pos 2 *ℤ s.args.m) (Line.coordinate s.args.t -ℤ s.args.p) 400 62769 (double-size s) less-size)

  product : SFits w64 (pos 2 *ℤ s.args.m *ℤ (Line.coordinate s.args.t -ℤ s.args.p))
  product = size→fits (omega (arith, product-size))

mul-result : tie.Need-overflow_mul-result
mul-result s = rw (to_z-of_z s.ranges.m) (double s)

coordinate-requires : tie.Need-coordinate-requires
coordinate-requires c κs = (omega arith, omega (arith, c.requires.2))

-- the coordinate
module _ (c : tie.After-coordinate) where
  given : to_z w64 (of_z w64 c.coordinate.result) ≡ Line.coordinate c.args.t
  given = back w64 {z = c.coordinate.result} c.coordinate.type_inv ∙ c.coordinate.ensures.0

sub-result : tie.Need-overflow_sub-result
sub-result c = rw (given c, to_z-of_z c.ranges.p) (less c.before)

mul-result-2 : tie.Need-overflow_mul-result-2
mul-result-2 c = let s = c.before in simp (to_z-of_z s.ranges.m, given c, to_z-of_z s.ranges.p, to_z-of_z (double s), to_z-of_z (less s)) (product s)

returns : tie.Need-returns
returns c = let s = c.before in simp (to_z-of_z s.ranges.m, given c, to_z-of_z s.ranges.p, to_z-of_z (double s), to_z-of_z (less s), to_z-of_z (product s)) (refl, product-size s)

pub reach_spec : {M : Type 1} → statement M
reach_spec = tie.close (tie.spec mul-result coordinate-requires sub-result mul-result-2 returns)
