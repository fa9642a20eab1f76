use mathlib.Core.Path.{◌≡◌, ◌∙◌, ap}
use lib.IntN.{ℤ, pos, ◌+ℤ◌, +ℤ_comm, +ℤ_idl}
use mir.Syntax.{w32}
use mir.Val.{SFits}
use mir.Facts.{to_z-of_z}
use Rattle.integers.specs.lemmas.Size.{back}
use Rattle.integers.specs.Parity.{half}
use Rattle.ring.specs.Point.{ext}
use borrow.Author.Rules.{rules}
use Rattle.gates.proofs.elements.half.Statement.{statement}
use Rattle.gates.proofs.elements.half.Tie as tie

half-sum-requires : tie.Need-half_sum-requires
half-sum-requires c κs = search rules

half-sum-requires-2 : tie.Need-half_sum-requires-2
half-sum-requires-2 c κs = search rules

half-sum-requires-3 : tie.Need-half_sum-requires-3
half-sum-requires-3 c κs = search rules

half-sum-requires-4 : tie.Need-half_sum-requires-4
half-sum-requires-4 c κs = search rules

plain : {x y : ℤ} → x ≡ y → x +ℤ pos 0 ≡ y
plain {x} {y} e = +ℤ_comm x (pos 0) ∙ +ℤ_idl x ∙ e

d-fits : (c : tie.After-half_sum) → SFits w32 c.args.v.d
d-fits c = search rules

returns : tie.Need-returns
returns c =
    let sc = c in
    let sb = sc in
    let sa = sb.before.before in
    let v = c.args.v in
    let ha : SFits w32 v.a = search rules in
    let hb : SFits w32 v.b = search rules in
    let hc : SFits w32 v.c = search rules in
    let hd : SFits w32 v.d = d-fits sa.before.before.before.before in
    ext
    (back w32 c.half_sum.type_inv ∙ c.half_sum.ensures ∙ ap half (plain (to_z-of_z ha)))
    (back w32 c.half_sum-2.type_inv ∙ c.half_sum-2.ensures ∙ ap half (plain (to_z-of_z hb)))
    (back w32 c.half_sum-3.type_inv ∙ c.half_sum-3.ensures ∙ ap half (plain (to_z-of_z hc)))
    (back w32 c.half_sum-4.type_inv ∙ c.half_sum-4.ensures ∙ ap half (plain (to_z-of_z hd)))

pub half_spec : {M : Type 1} → statement M
half_spec =
    tie.close
    (tie.spec
    half-sum-requires
    half-sum-requires-2
    half-sum-requires-3
    half-sum-requires-4
    returns)
