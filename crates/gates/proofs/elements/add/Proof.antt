use native.Mathlib.Omega.{arith}
use lib.IntN.{◌+ℤ◌}
use mir.Syntax.{w32}
use mir.Val.{SFits}
use borrow.Author.Rules.{rules}
use Rattle.integers.specs.lemmas.Size.{size-+, size→fits}
use Rattle.gates.proofs.elements.add.Statement.{statement}
use Rattle.gates.proofs.elements.add.Tie as tie

fits : (c : tie.Start) → SFits w32 (◌+ℤ◌ c.args.a c.args.b)
fits c = size→fits (omega (arith, size-+ c.args.a c.args.b, c.requires))

add-result : tie.Need-overflow_add-result
add-result c = let h = fits c in search rules

returns : tie.Need-returns
returns c = let h = fits c in search rules

pub add_spec : {M : Type 1} → statement M
add_spec = tie.close (tie.spec add-result returns)
