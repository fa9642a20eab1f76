-- `target_of` meets its contract. Assumes nothing.
use mathlib.Core.Path.{refl}
use borrow.Author.Rules.{rules}
use Rattle.library_trays.proofs.back.target_of.Statement.{statement}
use Rattle.library_trays.proofs.back.target_of.Tie as tie

region-of-requires : tie.Need-region_of-region-requires
region-of-requires c κs = search rules

returns : tie.Need-returns
returns c = rw c.region_of-region.ensures refl

pub target_of_spec : {M : Type 1} → statement M
target_of_spec = tie.close (tie.spec region-of-requires returns)
