use mathlib.Core.Path.{◌∙◌, ap}
use Rattle.operator_matrices.specs.Matrix.{determinant_of}
use Rattle.operator.specs.Bounded.{Fits16}
use Rattle.operator_matrices.specs.Bounded.{matrix-bounded}
use borrow.Author.Rules.{rules}
use Rattle.operator_matrices.proofs.determinant_of.Statement.{statement}
use Rattle.operator_matrices.proofs.determinant_of.Tie as tie

of-requires : tie.Need-of-requires
of-requires c κs = search rules

fits : (c : tie.Start) → Fits16 c.args.g
fits c = search rules

determinant-requires : tie.Need-determinant-requires
determinant-requires c κs = rw c.of.ensures (matrix-bounded _ (fits c.before))

returns : tie.Need-returns
returns c = c.determinant.ensures ∙ ap determinant_of c.of.ensures

pub determinant_of_spec : {M : Type 1} → statement M
determinant_of_spec = tie.close (tie.spec of-requires determinant-requires returns)
