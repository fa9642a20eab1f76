use mathlib.Core.Path.{ap, ◌∙◌}
use Rattle.operator_matrices.specs.declared.Entry.{Entry}
use Rattle.operator_matrices.specs.Matrix.{at, pairs, determinant_of}
use Rattle.operator_matrices.specs.lemmas.Determinant.{pairs-neg}
use Rattle.operator_matrices.specs.Bounded.{neg_bounded}
use borrow.Author.Rules.{rules}
use Rattle.operator_matrices.proofs.matrix.determinant.Statement.{statement}
use Rattle.operator_matrices.proofs.matrix.determinant.Tie as tie

negated-requires : tie.Need-negated-requires
negated-requires c κs = search (rules, c.requires)

pairs-requires : tie.Need-pairs-requires
pairs-requires c κs = search (rules, c.requires, neg_bounded)

returns : tie.Need-returns
unfolding determinant_of
returns c =
    let m = c.args.m in
    c.pairs.ensures ∙ ap (λ (u : Entry). pairs (at m 0 0) (at m 1 1) u (at m 1 0)) c.negated.ensures ∙ pairs-neg (at m 0 0) (at m 1 1) (at m 0 1) (at m 1 0)

bounds-m-0 : tie.Need-bounds-m-0
bounds-m-0 c = search rules

bounds-m-0-2 : tie.Need-bounds-m-0-2
bounds-m-0-2 c = search rules

bounds-m-1 : tie.Need-bounds-m-1
bounds-m-1 c = search rules

bounds-m-1-2 : tie.Need-bounds-m-1-2
bounds-m-1-2 c = search rules

bounds-m-0-3 : tie.Need-bounds-m-0-3
bounds-m-0-3 c = search rules

bounds-m-1-3 : tie.Need-bounds-m-1-3
bounds-m-1-3 c = search rules

bounds-m-1-4 : tie.Need-bounds-m-1-4
bounds-m-1-4 c = search rules

bounds-m-0-4 : tie.Need-bounds-m-0-4
bounds-m-0-4 c = search rules

pub determinant_spec : {M : Type 1} → statement M
determinant_spec =
    tie.close (tie.spec bounds-m-0 bounds-m-0-2 bounds-m-1 bounds-m-1-2 bounds-m-0-3 bounds-m-1-3 negated-requires bounds-m-1-4 bounds-m-0-4 pairs-requires returns)
