use borrow.Author.Rules.{rules}
use native.Mathlib.Omega.{arith}
use lib.IntN.{◌+ℤ◌, ◌*ℤ◌}
use mir.Syntax.{w64}
use mir.Val.{SFits}
use Rattle.integers.specs.lemmas.Size.{size-+, size→fits}
use Rattle.ring_surds.proofs.dot.Statement.{statement}
use Rattle.ring_surds.proofs.dot.Tie as tie

fits : (c : tie.Start) → let a = c.args in SFits w64 (a.a *ℤ a.b) × SFits w64 (a.c *ℤ a.d) × SFits w64 (a.a *ℤ a.b +ℤ a.c *ℤ a.d)
fits c = let d = size-+ (c.args.a *ℤ c.args.b) (c.args.c *ℤ c.args.d) in (size→fits (omega arith), size→fits (omega arith), size→fits (omega arith))

mul-result : tie.Need-overflow_mul-result
mul-result c = let f = fits c in search rules

mul-result-2 : tie.Need-overflow_mul-result-2
mul-result-2 c = let f = fits c in search rules

add-result : tie.Need-overflow_add-result
add-result c = let f = fits c in search rules

returns : tie.Need-returns
returns c = let f = fits c in search rules

pub dot_spec : {M : Type 1} → statement M
dot_spec = tie.close (tie.spec mul-result mul-result-2 add-result returns)
