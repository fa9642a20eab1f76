use mathlib.Core.Path.{refl, sym, ◌∙◌}
use Rattle.operator_matrices.specs.Matrix.{determinant_within}
use Rattle.operator_matrices.specs.Within.{within-bounded}
use borrow.Author.Rules.{rules}
use Rattle.operator_matrices.proofs.bounded.determinant.Statement.{statement}
use Rattle.operator_matrices.proofs.bounded.determinant.Tie as tie

is-within-requires : tie.Need-is_within-requires
is-within-requires c κs = search rules

determinant-requires : tie.Need-determinant-d-requires
determinant-requires c κs = within-bounded _ (sym c.is_within.ensures ∙ c.if-is_within.true)

returns : tie.Need-returns-then-is_within
unfolding determinant_within
returns c = let t = sym c.is_within.ensures ∙ c.if-is_within.true in (sym t, rw t c.determinant-d.ensures)

returns-2 : tie.Need-returns
unfolding determinant_within
returns-2 c = let t = sym c.is_within.ensures ∙ c.if-is_within.false in (sym t, rw t refl)

pub determinant_spec : {M : Type 1} → statement M
determinant_spec = tie.close (tie.spec is-within-requires determinant-requires returns returns-2)
