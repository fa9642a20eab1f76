-- `costs` meets its contract. Assumes nothing.
use borrow.Author.Rules.{rules}
use mathlib.Core.Path.{refl}
use Rattle.library_calls.proofs.companions.costs.Statement.{statement}
use Rattle.library_calls.proofs.companions.costs.Tie as tie

flag-requires : tie.Need-flag-requires
flag-requires c κs = search rules

returns : tie.Need-returns
returns c = rw c.flag.ensures refl

pub costs_spec : {M : Type 1} → statement M
costs_spec = tie.close (tie.spec flag-requires returns)
