-- `whole` meets its contract. Assumes nothing.
use mathlib.Core.Path.{refl}
use borrow.Author.Tests.{lt-ltb, le-ltb}
use borrow.Author.Rules.{rules}
use Rattle.text_input_lines.proofs.whole.Statement.{statement}
use Rattle.text_input_lines.proofs.whole.Tie as tie

returns : tie.Need-returns-then-g
returns c = search rules

returns-2 : tie.Need-returns-then-g-room
returns-2 c = rw (c.if-g.false, lt-ltb _ _ c.if-g-room.true) refl

returns-3 : tie.Need-returns
returns-3 c = rw (c.if-g.false, le-ltb _ _ c.if-g-room.false) refl

pub whole_spec : {M : Type 1} → statement M
whole_spec = tie.close (tie.spec returns returns-2 returns-3)
