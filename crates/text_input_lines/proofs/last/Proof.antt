-- `last` meets its contract. Assumes nothing.
use mathlib.Core.Path.{refl}
use borrow.Author.Tests.{eq-eqb, ne_eqb}
use borrow.Author.Rules.{rules}
use Rattle.text_input_lines.proofs.last.Statement.{statement}
use Rattle.text_input_lines.proofs.last.Tie as tie

returns : tie.Need-returns-then-g
returns c = search rules

returns-2 : tie.Need-returns-then-g-eq0
returns-2 c = rw (c.if-g.false, eq-eqb _ _ c.if-g-eq0.true) refl

whole-requires : tie.Need-whole-requires
whole-requires c κs = search rules

returns-3 : tie.Need-returns
returns-3 c = rw (c.if-g.false, ne_eqb _ _ c.if-g-eq0.false) (rw c.if-g.false at c.whole.ensures)

pub last_spec : {M : Type 1} → statement M
last_spec = tie.close (tie.spec returns returns-2 whole-requires returns-3)
