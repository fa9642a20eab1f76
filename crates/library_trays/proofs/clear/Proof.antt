-- `clear` meets its contract. Assumes nothing.
use mathlib.Core.List.{[]}
use Rattle.library_trays.specs.Calls.{left-steps}
use borrow.Author.Rules.{rules}
use Rattle.library_trays.proofs.clear.Statement.{statement}
use Rattle.library_trays.proofs.clear.Tie as tie

session-of-requires : tie.Need-session_of-requires
session-of-requires c κs = search rules

clear-requires : tie.Need-clear-requires
clear-requires c κs = search rules

leaving-requires : tie.Need-leaving-requires
leaving-requires c κs = search rules

returns : tie.Need-returns
returns c = left-steps c.leaving.ensures c.session_of.ensures [] c.clear.ensures

pub clear_spec : {M : Type 1} → statement M
clear_spec = tie.close (tie.spec session-of-requires clear-requires leaving-requires returns)
