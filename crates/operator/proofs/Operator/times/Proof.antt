use mathlib.Core.Path.{◌∙◌}
use mir.Syntax.{w16}
use mir.Facts.{to_z-of_z}
use Rattle.integers.specs.lemmas.Size.{back}
use Rattle.operator.specs.Operator.{ext}
use Rattle.operator.specs.Inverse.{times}
use Rattle.operator.specs.Bounded.{Fits16}
use borrow.Author.Rules.{rules}
use Rattle.operator.proofs.Operator.times.Statement.{statement}
use Rattle.operator.proofs.Operator.times.Tie as tie

fits : (c : tie.Start) → Fits16 c.args.self
fits c = search rules

scaled-requires : tie.Need-scaled-requires
scaled-requires c κs = search rules

scaled-requires-2 : tie.Need-scaled-requires-2
scaled-requires-2 c κs = search rules

scaled-requires-3 : tie.Need-scaled-requires-3
scaled-requires-3 c κs = search rules

scaled-requires-4 : tie.Need-scaled-requires-4
scaled-requires-4 c κs = search rules

scaled-requires-5 : tie.Need-scaled-requires-5
scaled-requires-5 c κs = search rules

scaled-requires-6 : tie.Need-scaled-requires-6
scaled-requires-6 c κs = search rules

scaled-requires-7 : tie.Need-scaled-requires-7
scaled-requires-7 c κs =
    let s = c.before.before.before.before.before.before.before.before.before.before.before.before.before in
    let f = fits s in
    let k = s.ranges.k in
    let h = s.requires in
    search rules

scaled-requires-8 : tie.Need-scaled-requires-8
scaled-requires-8 c κs =
    let s = c.before.before.before.before.before.before.before.before.before.before.before.before.before.before.before in
    let f = fits s in
    let k = s.ranges.k in
    let h = s.requires in
    search rules

returns : tie.Need-returns
unfolding times
returns c =
    let c7 = c in
    let c6 = c7 in
    let c5 = c6 in
    let c4 = c5 in
    let c3 = c4 in
    let c2 = c3 in
    let c1 = c2 in
    let s = c1.before.before in
    let f = fits s.before.before.before.before.before.before.before.before.before.before.before.before.before.before in
    simp (to_z-of_z s.ranges.k, to_z-of_z f.a, to_z-of_z f.b, to_z-of_z f.c, to_z-of_z f.d, to_z-of_z f.ai, to_z-of_z f.bi, to_z-of_z f.ci, to_z-of_z f.di) at
    (ext (back w16 c1.scaled.type_inv ∙ c1.scaled.ensures) (back w16 c2.scaled-2.type_inv ∙ c2.scaled-2.ensures) (back w16 c3.scaled-3.type_inv ∙ c3.scaled-3.ensures) (back w16 c4.scaled-4.type_inv ∙ c4.scaled-4.ensures)
    (back w16 c5.scaled-5.type_inv ∙ c5.scaled-5.ensures) (back w16 c6.scaled-6.type_inv ∙ c6.scaled-6.ensures) (back w16 c7.scaled-7.type_inv ∙ c7.scaled-7.ensures) (back w16 c.scaled-8.type_inv ∙ c.scaled-8.ensures))

pub times_spec : {M : Type 1} → statement M
times_spec =
    tie.close
    (tie.spec
    scaled-requires
    scaled-requires-2
    scaled-requires-3
    scaled-requires-4
    scaled-requires-5
    scaled-requires-6
    scaled-requires-7
    scaled-requires-8
    returns)
