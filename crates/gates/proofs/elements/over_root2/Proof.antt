use mathlib.Core.Path.{◌∙◌, ap, ap₂}
use lib.IntN.{◌+ℤ◌, ◌-ℤ◌}
use mir.Syntax.{w32}
use mir.Val.{SFits}
use mir.Facts.{to_z-of_z}
use borrow.Author.Rules.{rules}
use Rattle.integers.specs.lemmas.Size.{back}
use Rattle.integers.specs.Parity.{half}
use Rattle.ring.specs.Point.{ext}
use Rattle.gates.proofs.elements.over_root2.Statement.{statement}
use Rattle.gates.proofs.elements.over_root2.Tie as tie

half-difference-requires : tie.Need-half_difference-requires
half-difference-requires c κs = search rules

half-sum-requires : tie.Need-half_sum-requires
half-sum-requires c κs = search rules

half-sum-requires-2 : tie.Need-half_sum-requires-2
half-sum-requires-2 c κs = search rules

half-difference-requires-2 : tie.Need-half_difference-requires-2
half-difference-requires-2 c κs = search rules

d-fits : (c : tie.After-half_difference) → SFits w32 c.args.v.d
d-fits c = search rules

returns : tie.Need-returns
returns c =
    let sc = c in
    let sb = sc in
    let sa = sb.before.before.before in
    let v = c.args.v in
    let ha : SFits w32 v.a = search rules in
    let hb : SFits w32 v.b = search rules in
    let hc : SFits w32 v.c = search rules in
    let hd : SFits w32 v.d = d-fits sa.before.before.before.before.before.before in
    ext
    (back w32 c.half_difference.type_inv ∙ c.half_difference.ensures ∙ ap half (ap₂ ◌-ℤ◌ (to_z-of_z hb) (to_z-of_z hd)))
    (back w32 c.half_sum.type_inv ∙ c.half_sum.ensures ∙ ap half (ap₂ ◌+ℤ◌ (to_z-of_z hc) (to_z-of_z ha)))
    (back w32 c.half_sum-2.type_inv ∙ c.half_sum-2.ensures ∙ ap half (ap₂ ◌+ℤ◌ (to_z-of_z hd) (to_z-of_z hb)))
    (back w32 c.half_difference-2.type_inv ∙ c.half_difference-2.ensures ∙ ap half (ap₂ ◌-ℤ◌ (to_z-of_z hc) (to_z-of_z ha)))

pub over_root2_spec : {M : Type 1} → statement M
over_root2_spec =
    tie.close
    (tie.spec
    half-difference-requires
    half-sum-requires
    half-sum-requires-2
    half-difference-requires-2
    returns)
