use mathlib.Core.Path.{sym, ◌∙◌}
use mathlib.Core.Bool.{false≢true}
use borrow.Author.Rules.{rules}
use Rattle.question_strips.proofs.units.fits.Statement.{statement}
use Rattle.question_strips.proofs.units.fits.Tie as tie

has-short-ends-requires : tie.Need-has_short_ends-requires
has-short-ends-requires c κs = search rules

has-short-ends-requires-2 : tie.Need-has_short_ends-requires-then-has_short_ends
has-short-ends-requires-2 c κs = search rules

returns : tie.Need-returns-then-has_short_ends
returns c = λ t. (c.has_short_ends.ensures c.if-has_short_ends.true, c.has_short_ends-then-has_short_ends.ensures t)

returns-2 : tie.Need-returns-else-has_short_ends
returns-2 c = λ t. absurd (false≢true (sym c.if-has_short_ends.false ∙ t))

pub fits_spec : {M : Type 1} → statement M
fits_spec = tie.close (tie.spec has-short-ends-requires has-short-ends-requires-2 returns returns-2)
