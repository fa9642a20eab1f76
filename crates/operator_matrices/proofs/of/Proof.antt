use mathlib.Core.Path.{refl}
use Rattle.operator_matrices.specs.Matrix.{matrix_of}
use Rattle.operator.specs.Bounded.{Fits16, bits16}
use borrow.Author.Rules.{rules}
use Rattle.operator_matrices.proofs.of.Statement.{statement}
use Rattle.operator_matrices.proofs.of.Tie as tie

minus-requires : tie.Need-minus-requires
minus-requires c κs = search rules

minus-requires-2 : tie.Need-minus-requires-2
minus-requires-2 c κs = search rules

plus-requires : tie.Need-plus-requires
plus-requires c κs = search rules

plus-requires-2 : tie.Need-plus-requires-2
plus-requires-2 c κs = search rules

fits : (c : tie.Start) → Fits16 c.args.g
fits c = search rules

returns : tie.Need-returns
unfolding matrix_of
returns c =
    let c3 = c in
    let c2 = c3 in
    let c1 = c2 in
    let r = bits16 (fits c.before.before.before.before.before.before.before.before.before.before.before.before.before.before.before.before) in
    rw (c.minus.ensures, c.minus-2.ensures, c.plus.ensures, c.plus-2.ensures, r.a, r.b, r.c, r.d, r.ai, r.bi, r.ci, r.di) refl

pub of_spec : {M : Type 1} → statement M
of_spec =
    tie.close (tie.spec minus-requires minus-requires-2 plus-requires plus-requires-2 returns)
