use mathlib.Core.Path.{sym, ap, ◌∙◌}
use Rattle.gate_tariff.specs.Tariff.{answered, cost_of}
use Rattle.gate_tariff.proofs.Prices.{cost_price, ticks_fit}
use borrow.Author.Rules.{rules}
use Rattle.gate_tariff.proofs.cost.Statement.{statement}
use Rattle.gate_tariff.proofs.cost.Tie as tie

in-range-requires : tie.Need-in_range-requires
in-range-requires c κs = search rules

returns : tie.Need-returns-then-not-in_range
returns c = cost_price _ _ _ (sym c.in_range.ensures ∙ c.if-not-in_range.true)

word-ticks-requires : tie.Need-word_ticks-requires
word-ticks-requires c κs = sym c.in_range.ensures ∙ c.if-not-in_range.false

answered-requires : tie.Need-answered-requires
answered-requires c κs = ticks_fit _ _ _ c.word_ticks.ensures

returns-2 : tie.Need-returns
unfolding cost_of
returns-2 c = c.answered.ensures ∙ ap (answered _) c.word_ticks.ensures

pub cost_spec : {M : Type 1} → statement M
cost_spec = tie.close (tie.spec in-range-requires returns word-ticks-requires answered-requires returns-2)
