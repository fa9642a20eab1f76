use mathlib.Core.Path.{sym, ◌∙◌}
use mir.Syntax.{w64}
use mir.Val.{SFits}
use mir.Facts.{to_z-of_z}
use borrow.Author.Rules.{rules}
use Rattle.integers.specs.lemmas.Size.{back}
use Rattle.ring.specs.RootTwo.{ext}
use Rattle.ring.specs.RootTwo.Sized.{combined_parts}
use Rattle.ring_surds.proofs.combined.Statement.{statement}
use Rattle.ring_surds.proofs.combined.Tie as tie

dot-requires : tie.Need-dot-requires
dot-requires c κs = search rules

dot-requires-2 : tie.Need-dot-requires-2
dot-requires-2 c κs = search rules

returns : tie.Need-returns
returns c =
    let g = c in
    let s = g in
    let a = s.args in
    let xp : SFits w64 a.x.p = search rules in
    let xq : SFits w64 a.x.q = search rules in
    let yp : SFits w64 a.y.p = search rules in
    let yq : SFits w64 a.y.q = search rules in
    let f = simp (to_z-of_z s.ranges.m, to_z-of_z s.ranges.n, to_z-of_z xp, to_z-of_z yp) at g.dot.ensures in
    let h = simp (to_z-of_z s.ranges.m, to_z-of_z s.ranges.n, to_z-of_z xq, to_z-of_z yq) at c.dot-2.ensures in
    ext (back w64 g.dot.type_inv ∙ f) (back w64 c.dot-2.type_inv ∙ h) ∙ sym (combined_parts a.m a.x a.n a.y)

pub combined_spec : {M : Type 1} → statement M
combined_spec = tie.close (tie.spec dot-requires dot-requires-2 returns)
