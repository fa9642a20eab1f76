-- `hand_out` meets its contract. Assumes nothing.
use Rattle.library_trays.specs.Calls.{left-hands}
use borrow.Author.Rules.{rules}
use Rattle.library_trays.proofs.hand_out.Statement.{statement}
use Rattle.library_trays.proofs.hand_out.Tie as tie

session-of-requires : tie.Need-session_of-requires
session-of-requires c κs = search rules

hand-out-requires : tie.Need-hand_out-requires
hand-out-requires c κs = search rules

leaving-requires : tie.Need-leaving-requires
leaving-requires c κs = search rules

same_length : tie.Need-shape_of-out
same_length c = search rules

returns : tie.Need-returns
returns c = left-hands c.leaving.ensures c.session_of.ensures _ _ c.hand_out.ensures

pub hand_out_spec : {M : Type 1} → statement M
hand_out_spec = tie.close (tie.spec session-of-requires hand-out-requires leaving-requires same_length returns)
