use mathlib.Core.Path.{◌≡◌}
use native.Mathlib.Omega.{arith}
use mir.Syntax.{w16, w64}
use mir.Val.{SFits, to_z, of_z}
use mir.Facts.{to_z-of_z}
use Rattle.integers.specs.lemmas.Size.{size→fits, back}
use Rattle.question_strips.proofs.sharp.whole.Statement.{statement}
use Rattle.question_strips.proofs.sharp.whole.Tie as tie

-- the direction in 16 bits
module _ (c : tie.Start) where
  u-fits : SFits w16 c.args.u
  u-fits = size→fits (omega (arith, c.requires.1))

  v-fits : SFits w16 c.args.v
  v-fits = size→fits (omega (arith, c.requires.2))

  u-is : to_z w16 (of_z w16 (to_z w64 (of_z w64 c.args.u))) ≡ c.args.u
  u-is = rw (to_z-of_z c.ranges.u) (to_z-of_z u-fits)

  v-is : to_z w16 (of_z w16 (to_z w64 (of_z w64 c.args.v))) ≡ c.args.v
  v-is = rw (to_z-of_z c.ranges.v) (to_z-of_z v-fits)

cast-bound : tie.Need-overflow_cast-u
cast-bound c = rw (to_z-of_z c.ranges.u) (u-fits c)

cast-bound-2 : tie.Need-overflow_cast-v
cast-bound-2 c = rw (to_z-of_z c.ranges.v) (v-fits c)

bound-requires : tie.Need-bound-requires
bound-requires c κs = (c.requires.0, rw (u-is c) (omega (arith, c.requires.1)), rw (v-is c) (omega (arith, c.requires.2)))

returns : tie.Need-returns
returns c = let s = c.before in rw (back w64 c.bound.type_inv) (rw (u-is s, v-is s) at c.bound.ensures)

pub whole_spec : {M : Type 1} → statement M
whole_spec = tie.close (tie.spec cast-bound cast-bound-2 bound-requires returns)
