use mathlib.Core.Path.{◌∙◌}
use mir.Syntax.{w64}
use Rattle.integers.specs.lemmas.Size.{back}
use Rattle.ring.specs.Point.{ext}
use Rattle.operator.specs.Operator.{image_of}
use Rattle.operator.specs.Bounded.{Fits16, bits16}
use borrow.Author.Rules.{rules}
use Rattle.operator.proofs.Operator.image_wide.Statement.{statement}
use Rattle.operator.proofs.Operator.image_wide.Tie as tie

minus-requires : tie.Need-minus-requires
minus-requires c κs = c.requires

plus-requires : tie.Need-plus-requires
plus-requires c κs = c.requires

plus-requires-2 : tie.Need-plus-requires-2
plus-requires-2 c κs = c.requires

minus-requires-2 : tie.Need-minus-requires-2
minus-requires-2 c κs = c.requires

fits : (c : tie.Start) → Fits16 c.args.self
fits c = search rules

returns : tie.Need-returns
unfolding image_of
returns c =
    let c3 = c in
    let c2 = c3 in
    let c1 = c2 in
    let r = bits16 (fits c1.before.before.before.before.before.before.before.before.before.before.before.before.before.before.before.before.before.before.before.before.before.before.before.before.before.before.before.before) in
    ext
    (back w64 c1.minus.type_inv ∙ rw (r.a, r.ai, r.bi, r.di, r.b, r.d) at c1.minus.ensures)
    (back w64 c2.plus.type_inv ∙ rw (r.b, r.bi, r.ci, r.ai, r.c, r.a) at c2.plus.ensures)
    (back w64 c3.plus-2.type_inv ∙ rw (r.c, r.ci, r.bi, r.di, r.b, r.d) at c3.plus-2.ensures)
    (back w64 c.minus-2.type_inv ∙ rw (r.d, r.di, r.ci, r.ai, r.c, r.a) at c.minus-2.ensures)

pub image_wide_spec : {M : Type 1} → statement M
image_wide_spec =
    tie.close (tie.spec minus-requires plus-requires plus-requires-2 minus-requires-2 returns)
