use mathlib.Core.Path.{◌∙◌, ap}
use mir.Syntax.{w32}
use mir.Val.{SFits}
use mir.Facts.{to_z-of_z}
use Rattle.gate_theory.specs.Odd.{odd?}
use Rattle.gate_theory.specs.Parities.{bits}
use borrow.Author.Rules.{rules}
use Rattle.gates.proofs.parity.parities.Statement.{statement}
use Rattle.gates.proofs.parity.parities.Tie as tie

is-odd-requires : tie.Need-is_odd-requires
is-odd-requires c κs = search rules

is-odd-requires-2 : tie.Need-is_odd-requires-2
is-odd-requires-2 c κs = search rules

is-odd-requires-3 : tie.Need-is_odd-requires-3
is-odd-requires-3 c κs = search rules

is-odd-requires-4 : tie.Need-is_odd-requires-4
is-odd-requires-4 c κs = search rules

returns : tie.Need-returns
returns c =
    let v = c.args.v in
    let ha : SFits w32 v.a = search rules in
    let hb : SFits w32 v.b = search rules in
    let hc : SFits w32 v.c = search rules in
    let hd : SFits w32 v.d = search rules in
    bits
    (c.is_odd.ensures ∙ ap odd? (to_z-of_z ha))
    (c.is_odd-2.ensures ∙ ap odd? (to_z-of_z hb))
    (c.is_odd-3.ensures ∙ ap odd? (to_z-of_z hc))
    (c.is_odd-4.ensures ∙ ap odd? (to_z-of_z hd))

pub parities_spec : {M : Type 1} → statement M
parities_spec =
    tie.close
    (tie.spec is-odd-requires is-odd-requires-2 is-odd-requires-3 is-odd-requires-4 returns)
