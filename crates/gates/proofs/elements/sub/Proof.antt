use native.Mathlib.Omega.{arith}
use lib.IntN.{◌-ℤ◌}
use mir.Syntax.{w32}
use mir.Val.{SFits}
use borrow.Author.Rules.{rules}
use Rattle.integers.specs.lemmas.Size.{size--, size→fits}
use Rattle.gates.proofs.elements.sub.Statement.{statement}
use Rattle.gates.proofs.elements.sub.Tie as tie

fits : (c : tie.Start) → SFits w32 (◌-ℤ◌ c.args.a c.args.b)
fits c = size→fits (omega (arith, size-- c.args.a c.args.b, c.requires))

sub-result : tie.Need-overflow_sub-result
sub-result c = let h = fits c in search rules

returns : tie.Need-returns
returns c = let h = fits c in search rules

pub sub_spec : {M : Type 1} → statement M
sub_spec = tie.close (tie.spec sub-result returns)
