-- `take` meets its contract. Assumes nothing.
use mathlib.Core.List.{[]}
use Rattle.library_trays.specs.Calls.{left-steps}
use borrow.Author.Rules.{rules}
use Rattle.library_trays.proofs.take.Statement.{statement}
use Rattle.library_trays.proofs.take.Tie as tie

session-of-requires : tie.Need-session_of-requires
session-of-requires c κs = search rules

take-requires : tie.Need-take-requires
take-requires c κs = search rules

leaving-requires : tie.Need-leaving-requires
leaving-requires c κs = search rules

returns : tie.Need-returns
returns c = left-steps c.leaving.ensures c.session_of.ensures [] c.take.ensures

pub take_spec : {M : Type 1} → statement M
take_spec = tie.close (tie.spec session-of-requires take-requires leaving-requires returns)
