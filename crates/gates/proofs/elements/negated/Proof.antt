use mathlib.Core.Path.{◌∙◌}
use native.Mathlib.Omega.{arith}
use lib.IntN.{pos, neg_ℤ, ◌-ℤ◌, +ℤ_idl}
use mir.Syntax.{w32}
use mir.Val.{SFits}
use mir.Facts.{to_z-of_z}
use Rattle.integers.specs.lemmas.Size.{size--, size→fits}
use Rattle.gates.proofs.elements.negated.Statement.{statement}
use Rattle.gates.proofs.elements.negated.Tie as tie

fits : (c : tie.Start) → SFits w32 (pos 0 -ℤ c.args.a)
fits c = size→fits (omega (arith, size-- (pos 0) c.args.a, c.requires))

sub-result : tie.Need-overflow_sub-result
sub-result c = rw (to_z-of_z c.ranges.a) (fits c)

returns : tie.Need-returns
returns c = rw (to_z-of_z c.ranges.a) (to_z-of_z (fits c) ∙ +ℤ_idl (neg_ℤ c.args.a))

pub negated_spec : {M : Type 1} → statement M
negated_spec = tie.close (tie.spec sub-result returns)
