use mathlib.Core.Path.{◌∙◌, ap}
use lib.IntN.{neg_ℤ}
use mir.Syntax.{w32}
use Rattle.integers.specs.lemmas.Size.{back}
use Rattle.ring.specs.Point.{ext}
use mir.Val.{SFits}
use mir.Facts.{to_z-of_z}
use borrow.Author.Rules.{rules}
use Rattle.gates.proofs.elements.over_omega.Statement.{statement}
use Rattle.gates.proofs.elements.over_omega.Tie as tie

negated-requires : tie.Need-negated-requires
negated-requires c κs = search rules

returns : tie.Need-returns
returns c =
    let s = c in
    let v = c.args.v in
    let ha : SFits w32 v.a = search rules in
    let hb : SFits w32 v.b = search rules in
    let hc : SFits w32 v.c = search rules in
    let hd : SFits w32 v.d = search rules in
    ext
    (back w32 c.negated.type_inv ∙ c.negated.ensures ∙ ap neg_ℤ (to_z-of_z hd))
    (to_z-of_z ha)
    (to_z-of_z hb)
    (to_z-of_z hc)

pub over_omega_spec : {M : Type 1} → statement M
over_omega_spec = tie.close (tie.spec negated-requires returns)
