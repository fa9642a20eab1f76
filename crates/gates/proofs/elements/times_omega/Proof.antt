use mathlib.Core.Path.{◌∙◌, ap}
use lib.IntN.{neg_ℤ}
use mir.Syntax.{w32}
use Rattle.integers.specs.lemmas.Size.{back}
use Rattle.ring.specs.Point.{ext}
use mir.Val.{SFits}
use mir.Facts.{to_z-of_z}
use borrow.Author.Rules.{rules}
use Rattle.gates.proofs.elements.times_omega.Statement.{statement}
use Rattle.gates.proofs.elements.times_omega.Tie as tie

negated-requires : tie.Need-negated-requires
negated-requires c κs = search rules

returns : tie.Need-returns
returns c =
    let v = c.args.v in
    let ha : SFits w32 v.a = search rules in
    let hb : SFits w32 v.b = search rules in
    let hc : SFits w32 v.c = search rules in
    let hd : SFits w32 v.d = search rules in
    ext
    (to_z-of_z hb)
    (to_z-of_z hc)
    (to_z-of_z hd)
    (back w32 c.negated.type_inv ∙ c.negated.ensures ∙ ap neg_ℤ (to_z-of_z ha))

pub times_omega_spec : {M : Type 1} → statement M
times_omega_spec = tie.close (tie.spec negated-requires returns)
