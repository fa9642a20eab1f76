-- `sheet_of` meets its contract. Assumes nothing.
use borrow.Author.Rules.{rules}
use mathlib.Core.Path.{refl}
use Rattle.library_calls.proofs.companions.sheet_of.Statement.{statement}
use Rattle.library_calls.proofs.companions.sheet_of.Tie as tie

point-of-requires : tie.Need-point_of-u-requires
point-of-requires c κs = search rules

point-of-requires-2 : tie.Need-point_of-t-requires
point-of-requires-2 c κs = search rules

returns : tie.Need-returns
returns c = rw (c.point_of-u.ensures, c.point_of-t.ensures) refl

pub sheet_of_spec : {M : Type 1} → statement M
sheet_of_spec = tie.close (tie.spec point-of-requires point-of-requires-2 returns)
