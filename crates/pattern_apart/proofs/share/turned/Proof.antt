use mathlib.Core.Path.{◌∙◌}
use native.Mathlib.Omega.{arith}
use lib.IntN.{pos, neg_ℤ, ◌-ℤ◌, +ℤ_idl}
use mir.Syntax.{w32}
use mir.Val.{SFits}
use mir.Facts.{to_z-of_z}
use Rattle.integers.specs.lemmas.Size.{size--, size→fits}
use Rattle.pattern_apart.proofs.share.turned.Statement.{statement}
use Rattle.pattern_apart.proofs.share.turned.Tie as tie

narrow : (c : tie.Start) → SFits w32 c.args.h
narrow c = size→fits (omega (arith, c.requires))

fits : (c : tie.Start) → SFits w32 (pos 0 -ℤ c.args.h)
fits c = size→fits (omega (arith, size-- (pos 0) c.args.h, c.requires))

cast-result : tie.Need-overflow_cast-result
cast-result c = rw (to_z-of_z c.ranges.h) (narrow c)

sub-result : tie.Need-overflow_sub-result
sub-result c = rw (to_z-of_z c.ranges.h, to_z-of_z (narrow c)) (fits c)

returns : tie.Need-returns
returns c = rw (to_z-of_z c.ranges.h, to_z-of_z (narrow c)) (to_z-of_z (fits c) ∙ +ℤ_idl (neg_ℤ c.args.h))

pub turned_spec : {M : Type 1} → statement M
turned_spec = tie.close (tie.spec cast-result sub-result returns)
