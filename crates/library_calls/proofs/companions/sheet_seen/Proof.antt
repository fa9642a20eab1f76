-- `sheet_seen` meets its contract. Assumes nothing.
use borrow.Author.Rules.{rules}
use mathlib.Core.Path.{refl}
use Rattle.library_calls.proofs.companions.sheet_seen.Statement.{statement}
use Rattle.library_calls.proofs.companions.sheet_seen.Tie as tie

four-of-requires : tie.Need-four_of-requires
four-of-requires c κs = search rules

four-of-requires-2 : tie.Need-four_of-requires-2
four-of-requires-2 c κs = search rules

returns : tie.Need-returns
returns c = rw (c.four_of.ensures, c.four_of-2.ensures) refl

pub sheet_seen_spec : {M : Type 1} → statement M
sheet_seen_spec = tie.close (tie.spec four-of-requires four-of-requires-2 returns)
