use native.Mathlib.Omega.{arith}
use lib.IntN.{◌+ℤ◌}
use mir.Syntax.{w32}
use mir.Val.{SFits}
use mir.Facts.{sfits_widen}
use borrow.Author.Rules.{rules}
use Rattle.integers.specs.lemmas.Size.{size-+, size→fits, fits→size}
use Rattle.operator.proofs.sums.sum.Statement.{statement}
use Rattle.operator.proofs.sums.sum.Tie as tie

fits : (c : tie.Start) → SFits w32 c.args.x × SFits w32 c.args.y × SFits w32 (◌+ℤ◌ c.args.x c.args.y)
fits c = (sfits_widen tt c.ranges.x, sfits_widen tt c.ranges.y, size→fits (omega (arith, size-+ c.args.x c.args.y, fits→size c.ranges.x, fits→size c.ranges.y)))

cast-result : tie.Need-overflow_cast-result
cast-result c = let h = fits c in search rules

cast-result-2 : tie.Need-overflow_cast-result-2
cast-result-2 c = let h = fits c in search rules

add-result : tie.Need-overflow_add-result
add-result c = let h = fits c in search rules

returns : tie.Need-returns
returns c = let h = fits c in search rules

pub sum_spec : {M : Type 1} → statement M
sum_spec = tie.close (tie.spec cast-result cast-result-2 add-result returns)
