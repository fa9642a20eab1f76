use mathlib.Core.Path.{sym, ◌∙◌}
use borrow.Author.Rules.{rules}
use Rattle.line_rows.specs.lemmas.Both.{both-when, both-unless}
use Rattle.line_rows.proofs.bounded.Statement.{statement}
use Rattle.line_rows.proofs.bounded.Tie as tie

above-requires : tie.Need-above-requires
above-requires c κs = search rules

below-requires : tie.Need-below-requires
below-requires c κs = search rules

returns : tie.Need-returns-then-above
returns c = c.below.ensures ∙ sym (both-when (sym c.above.ensures ∙ c.if-above.true))

returns-2 : tie.Need-returns-else-above
returns-2 c = c.if-above.false ∙ sym (both-unless _ _ (sym c.above.ensures ∙ c.if-above.false))

pub bounded_spec : {M : Type 1} → statement M
bounded_spec = tie.close (tie.spec above-requires below-requires returns returns-2)
