-- `tray_of` meets its contract. Assumes nothing.
use mathlib.Core.Path.{refl}
use borrow.Author.Rules.{rules}
use Rattle.library_trays.proofs.back.tray_of.Statement.{statement}
use Rattle.library_trays.proofs.back.tray_of.Tie as tie

targets-of-requires : tie.Need-targets_of-targets-requires
targets-of-requires c κs = search rules

region-of-requires : tie.Need-region_of-b-requires
region-of-requires c κs = search rules

is-set-requires : tie.Need-is_set-requires
is-set-requires c κs = search rules

returns : tie.Need-returns
returns c = rw (c.is_set.ensures, c.region_of-b.ensures, c.targets_of-targets.ensures) refl

pub tray_of_spec : {M : Type 1} → statement M
tray_of_spec = tie.close (tie.spec targets-of-requires region-of-requires is-set-requires returns)
