-- `rewind` meets its contract. Assumes nothing.
use mathlib.Core.List.{[]}
use Rattle.library_trays.specs.Calls.{left-steps}
use borrow.Author.Rules.{rules}
use Rattle.library_trays.proofs.rewind.Statement.{statement}
use Rattle.library_trays.proofs.rewind.Tie as tie

session-of-requires : tie.Need-session_of-requires
session-of-requires c κs = search rules

rewind-requires : tie.Need-rewind-requires
rewind-requires c κs = search rules

leaving-requires : tie.Need-leaving-requires
leaving-requires c κs = search rules

returns : tie.Need-returns
returns c = left-steps c.leaving.ensures c.session_of.ensures [] c.rewind.ensures

pub rewind_spec : {M : Type 1} → statement M
rewind_spec = tie.close (tie.spec session-of-requires rewind-requires leaving-requires returns)
