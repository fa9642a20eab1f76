use mir.Syntax.{w32}
use mir.Val.{SFits}
use mir.Facts.{to_z-of_z}
use borrow.Author.Rules.{rules}
use mathlib.Core.Path.{refl}
use borrow.Author.Tests.{ne_eqb}
use Rattle.library_calls.proofs.alone.line_place.Statement.{statement}
use Rattle.library_calls.proofs.alone.line_place.Tie as tie

returns : tie.Need-returns-then-after-eq0
returns c = rw c.if-after-eq0.true refl

returns-2 : tie.Need-returns
returns-2 c = let h : SFits w32 c.args.a = search rules in let g : SFits w32 c.args.b = search rules in rw (to_z-of_z h, to_z-of_z g, ne_eqb _ 0 c.if-after-eq0.false) refl

pub line_place_spec : {M : Type 1} → statement M
line_place_spec = tie.close (tie.spec returns returns-2)
