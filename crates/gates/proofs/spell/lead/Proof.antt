use mathlib.Core.Path.{◌∙◌, ap}
use mathlib.Core.List.{[], ◌∷◌, ◌++◌}
use native.Mathlib.Omega.{arith}
use borrow.Author.Rules.{rules}
use Rattle.gates.proofs.spell.lead.Statement.{statement}
use Rattle.gates.proofs.spell.lead.Tie as tie

empty-requires : tie.Need-empty-requires
empty-requires c κs = search rules

returns : tie.Need-returns-then-plain
returns c =
    let e = c.empty.ensures in
    let b = c.if-plain.true in
    rw b (record { letters = e.0; len = e.1; room = omega arith }, omega arith)

empty-requires-2 : tie.Need-empty-requires-2
empty-requires-2 c κs = search rules

push-requires : tie.Need-push-requires
push-requires c κs = search rules

returns-2 : tie.Need-returns
returns-2 c =
    let e = c.empty-2.ensures in
    let p = c.push.ensures in
    let b = c.if-plain.false in
    rw b (record { letters = p.0 ∙ ap (λ l. l ++ (84 ∷ [])) e.0; len = omega arith; room = omega arith }, omega arith)

pub lead_spec : {M : Type 1} → statement M
lead_spec = tie.close (tie.spec empty-requires returns empty-requires-2 push-requires returns-2)
