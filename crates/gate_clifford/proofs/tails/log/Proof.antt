use mathlib.Core.Path.{◌≡◌, refl, ◌∙◌, ap}
use mir.Syntax.{w32}
use mir.Val.{SFits}
use mir.Facts.{to_z-of_z}
use borrow.Author.Rules.{rules}
use Rattle.gate_theory.specs.Table.{positive, negative, log}
use Rattle.gate_clifford.specs.lemmas.Place.{picked, log-small}
use Rattle.gate_clifford.proofs.tails.log.Statement.{statement}
use Rattle.gate_clifford.proofs.tails.log.Tie as tie

negative-requires : tie.Need-negative-requires
negative-requires c κs = search rules

negative-requires-2 : tie.Need-negative-requires-2
negative-requires-2 c κs = search rules

negative-requires-3 : tie.Need-negative-requires-3
negative-requires-3 c κs = search rules

negative-requires-4 : tie.Need-negative-requires-4
negative-requires-4 c κs = search rules

pick-requires : tie.Need-pick-requires
pick-requires c κs = search rules

pick-requires-2 : tie.Need-pick-requires-2
pick-requires-2 c κs = search rules

pick-requires-3 : tie.Need-pick-requires-3
pick-requires-3 c κs = search rules

pick-requires-4 : tie.Need-pick-minus-requires
pick-requires-4 c κs = search rules

positive-requires : tie.Need-positive-requires
positive-requires c κs = search rules

positive-requires-2 : tie.Need-positive-requires-2
positive-requires-2 c κs = search rules

positive-requires-3 : tie.Need-positive-requires-3
positive-requires-3 c κs = search rules

positive-requires-4 : tie.Need-positive-requires-4
positive-requires-4 c κs = search rules

pick-requires-5 : tie.Need-pick-requires-4
pick-requires-5 c κs = search rules

pick-requires-6 : tie.Need-pick-requires-5
pick-requires-6 c κs = search rules

pick-requires-7 : tie.Need-pick-requires-6
pick-requires-7 c κs = search rules

pick-requires-8 : tie.Need-pick-requires-7
pick-requires-8 c κs = search rules

returns : tie.Need-returns
returns c =
    let m = c in
    let n = m in
    let v = n.args.v in
    let ha : SFits w32 v.a = search rules in
    let hb : SFits w32 v.b = search rules in
    let hc : SFits w32 v.c = search rules in
    let hd : SFits w32 v.d = search rules in
    let x : m.pick-minus.result ≡ _ =
    picked 4 (n.negative.ensures ∙ ap negative (to_z-of_z hd)) (picked 5 (n.negative-2.ensures ∙ ap negative (to_z-of_z hc))
    (picked 6 (n.negative-3.ensures ∙ ap negative (to_z-of_z hb)) (picked 7 (n.negative-4.ensures ∙ ap negative (to_z-of_z ha)) refl
    m.pick.ensures) m.pick-2.ensures) m.pick-3.ensures) m.pick-minus.ensures in
    let e : c.pick-7.result ≡ log v =
    picked 0 (c.positive.ensures ∙ ap positive (to_z-of_z hd)) (picked 1 (c.positive-2.ensures ∙ ap positive (to_z-of_z hc))
    (picked 2 (c.positive-3.ensures ∙ ap positive (to_z-of_z hb)) (picked 3 (c.positive-4.ensures ∙ ap positive (to_z-of_z ha)) x
    c.pick-4.ensures) c.pick-5.ensures) c.pick-6.ensures) c.pick-7.ensures in
    (e, rw e (log-small v))

pub log_spec : {M : Type 1} → statement M
log_spec =
    tie.close
    (tie.spec
    negative-requires
    negative-requires-2
    negative-requires-3
    negative-requires-4
    pick-requires
    pick-requires-2
    pick-requires-3
    pick-requires-4
    positive-requires
    positive-requires-2
    positive-requires-3
    positive-requires-4
    pick-requires-5
    pick-requires-6
    pick-requires-7
    pick-requires-8
    returns)
