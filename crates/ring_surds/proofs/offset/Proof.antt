use mathlib.Core.Path.{sym, ◌∙◌}
use mir.Syntax.{w64}
use mir.Val.{SFits}
use mir.Facts.{to_z-of_z}
use borrow.Author.Rules.{rules}
use Rattle.integers.specs.lemmas.Size.{back}
use Rattle.ring.specs.RootTwo.{ext}
use Rattle.ring.specs.RootTwo.Sized.{offset-parts}
use Rattle.ring_surds.proofs.offset.Statement.{statement}
use Rattle.ring_surds.proofs.offset.Tie as tie

gap-requires : tie.Need-gap-requires
gap-requires c κs = search rules

gap-requires-2 : tie.Need-gap-requires-2
gap-requires-2 c κs = search rules

returns : tie.Need-returns
returns c =
    let g = c in
    let s = g in
    let a = s.args in
    let xp : SFits w64 a.x.p = search rules in
    let xq : SFits w64 a.x.q = search rules in
    let yp : SFits w64 a.y.p = search rules in
    let yq : SFits w64 a.y.q = search rules in
    let f = simp (to_z-of_z s.ranges.m, to_z-of_z s.ranges.n, to_z-of_z xp, to_z-of_z yp) at g.gap.ensures in
    let h = simp (to_z-of_z s.ranges.m, to_z-of_z s.ranges.n, to_z-of_z xq, to_z-of_z yq) at c.gap-2.ensures in
    ext (back w64 g.gap.type_inv ∙ f) (back w64 c.gap-2.type_inv ∙ h) ∙ sym (offset-parts a.m a.x a.n a.y)

pub offset_spec : {M : Type 1} → statement M
offset_spec = tie.close (tie.spec gap-requires gap-requires-2 returns)
