use native.Mathlib.Omega.{arith}
use lib.IntN.{◌+ℤ◌}
use mir.Syntax.{w64}
use mir.Val.{SFits}
use mir.Facts.{sfits_widen}
use borrow.Author.Rules.{rules}
use Rattle.integers.specs.lemmas.Size.{size-+, size→fits, fits→size}
use Rattle.operator_matrices.specs.Matrix.{ext}
use Rattle.operator_matrices.proofs.matrix.plus.Statement.{statement}
use Rattle.operator_matrices.proofs.matrix.plus.Tie as tie

fits : (c : tie.Start) → SFits w64 c.args.p × SFits w64 c.args.x × SFits w64 c.args.y × SFits w64 (◌+ℤ◌ c.args.x c.args.y)
fits c = (sfits_widen tt c.ranges.p, sfits_widen tt c.ranges.x, sfits_widen tt c.ranges.y, size→fits (omega (arith, size-+ c.args.x c.args.y, fits→size c.ranges.x, fits→size c.ranges.y)))

cast-t4 : tie.Need-overflow_cast-result
cast-t4 c = let h = fits c in search rules

cast-t5 : tie.Need-overflow_cast-result-2
cast-t5 c = let h = fits c in search rules

cast-t6 : tie.Need-overflow_cast-result-3
cast-t6 c = let h = fits c in search rules

add-t7 : tie.Need-overflow_add-result
add-t7 c = let h = fits c in search rules

returns : tie.Need-returns
returns c = let h = fits c in ext (search rules) (search rules)

pub plus_spec : {M : Type 1} → statement M
plus_spec = tie.close (tie.spec cast-t4 cast-t5 cast-t6 add-t7 returns)
