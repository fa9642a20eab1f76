-- `session_of` meets its contract. Assumes nothing.
use mathlib.Core.Path.{refl}
use Rattle.library_trays.specs.Numbers.{stage_none, stage_some}
use borrow.Author.Rules.{rules}
use Rattle.library_trays.proofs.back.session_of.Statement.{statement}
use Rattle.library_trays.proofs.back.session_of.Tie as tie

tray-of-requires : tie.Need-tray_of-tray-requires
tray-of-requires c κs = search rules

returns : tie.Need-returns-then-s-eq0
returns c = rw (c.tray_of-tray.ensures, stage_none c.args.s c.if-s-eq0.true) refl

point-of-requires : tie.Need-point_of-requires
point-of-requires c κs = search rules

spot-of-requires : tie.Need-spot_of-spot-requires
spot-of-requires c κs = search rules

returns-2 : tie.Need-returns
returns-2 c = rw (c.tray_of-tray.ensures, c.spot_of-spot.ensures, c.point_of.ensures, stage_some c.args.s c.if-s-eq0.false) refl

pub session_of_spec : {M : Type 1} → statement M
session_of_spec = tie.close (tie.spec tray-of-requires returns point-of-requires spot-of-requires returns-2)
