use mathlib.Core.Path.{refl}
use borrow.Author.Tests.{ne_eqb}
use borrow.Author.Rules.{rules}
use Rattle.library_calls.proofs.alone.entry_place.Statement.{statement}
use Rattle.library_calls.proofs.alone.entry_place.Tie as tie

returns : tie.Need-returns-then-after-eq0
returns c = rw c.if-after-eq0.true refl

point-of-requires : tie.Need-point_of-requires
point-of-requires c κs = search rules

returns-2 : tie.Need-returns
returns-2 c = rw (ne_eqb _ 0 c.if-after-eq0.false, c.point_of.ensures) refl

pub entry_place_spec : {M : Type 1} → statement M
entry_place_spec = tie.close (tie.spec returns point-of-requires returns-2)
