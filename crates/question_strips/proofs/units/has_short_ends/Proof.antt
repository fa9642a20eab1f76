use mathlib.Core.Path.{sym, ◌∙◌}
use mathlib.Core.Bool.{false≢true}
use borrow.Author.Rules.{rules}
use Rattle.question_strips.proofs.units.has_short_ends.Statement.{statement}
use Rattle.question_strips.proofs.units.has_short_ends.Tie as tie

is-short-requires : tie.Need-is_short-requires
is-short-requires c κs = search rules

is-short-requires-2 : tie.Need-is_short-requires-then-is_short
is-short-requires-2 c κs = search rules

returns : tie.Need-returns-then-is_short
returns c = λ t. (c.is_short.ensures c.if-is_short.true, c.is_short-then-is_short.ensures t)

returns-2 : tie.Need-returns-else-is_short
returns-2 c = λ t. absurd (false≢true (sym c.if-is_short.false ∙ t))

pub has_short_ends_spec : {M : Type 1} → statement M
has_short_ends_spec = tie.close (tie.spec is-short-requires is-short-requires-2 returns returns-2)
