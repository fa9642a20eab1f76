use mathlib.Core.Path.{refl}
use borrow.Author.Rules.{rules}
use Rattle.tray.proofs.start.Statement.{statement}
use Rattle.tray.proofs.start.Tie as tie

no-tray-requires : tie.Need-no_tray-requires
no-tray-requires c κs = search rules

returns : tie.Need-returns
returns c = rw c.no_tray.ensures refl

pub start_spec : {M : Type 1} → statement M
start_spec = tie.close (tie.spec no-tray-requires returns)
