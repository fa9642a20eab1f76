use mathlib.Core.List.{[], ◌∷◌}
use Rattle.operator_matrices.specs.Matrix.{product_of}
use borrow.Author.Rules.{rules}
use Rattle.operator_matrices.proofs.matrix.product.Statement.{statement}
use Rattle.operator_matrices.proofs.matrix.product.Tie as tie

cell-requires : tie.Need-cell-requires
cell-requires c κs = search rules

cell-requires-2 : tie.Need-cell-requires-2
cell-requires-2 c κs = search rules

cell-requires-3 : tie.Need-cell-requires-3
cell-requires-3 c κs = search rules

cell-requires-4 : tie.Need-cell-requires-4
cell-requires-4 c κs = search rules

returns : tie.Need-returns
unfolding product_of
returns c = λ k. (c.cell.ensures k ∷ c.cell-2.ensures k ∷ []) ∷ (c.cell-3.ensures k ∷ c.cell-4.ensures k ∷ []) ∷ []

pub product_spec : {M : Type 1} → statement M
product_spec =
    tie.close (tie.spec cell-requires cell-requires-2 cell-requires-3 cell-requires-4 returns)
