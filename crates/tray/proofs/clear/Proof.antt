use mathlib.Core.Path.{refl}
use borrow.Author.Rules.{rules}
use Rattle.tray.proofs.clear.Statement.{statement}
use Rattle.tray.proofs.clear.Tie as tie

start-requires : tie.Need-start-requires
start-requires c κs = search rules

returns : tie.Need-returns
returns c = rw c.start.ensures refl

pub clear_spec : {M : Type 1} → statement M
clear_spec = tie.close (tie.spec start-requires returns)
