use mathlib.Core.Path.{sym, ◌∙◌, ap}
use Rattle.gates.specs.Start.{start}
use borrow.Author.Rules.{rules}
use Rattle.gates.proofs.spell.start.Statement.{statement}
use Rattle.gates.proofs.spell.start.Tie as tie

returns : tie.Need-returns-then-plain
returns c = search rules

without-t-requires : tie.Need-without_t-requires
without-t-requires c κs = search rules

returns-2 : tie.Need-returns
returns-2 c =
    let a = c.args in
    c.without_t.ensures ∙ ap (λ b. start b a.s) (sym c.if-plain.false)

pub start_spec : {M : Type 1} → statement M
start_spec = tie.close (tie.spec returns without-t-requires returns-2)
