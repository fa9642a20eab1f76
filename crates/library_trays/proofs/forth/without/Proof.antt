-- `without` meets its contract. Assumes nothing.
use mathlib.Core.Path.{refl}
use Rattle.library_trays.specs.Numbers.{meant-none}
use Rattle.library_trays.proofs.forth.without.Statement.{statement}
use Rattle.library_trays.proofs.forth.without.Tie as tie

returns : tie.Need-returns
returns c = meant-none _ refl

pub without_spec : {M : Type 1} → statement M
without_spec = tie.close (tie.spec returns)
