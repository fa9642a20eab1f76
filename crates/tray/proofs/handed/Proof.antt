use borrow.Author.Rules.{rules}
use Rattle.tray.specs.Session.{gave_gives}
use Rattle.tray.proofs.handed.Statement.{statement}
use Rattle.tray.proofs.handed.Tie as tie

hand-out-requires : tie.Need-hand_out-h-requires
hand-out-requires c κs = search rules

is-ended-requires : tie.Need-is_ended-requires
is-ended-requires c κs = search rules

same_length : tie.Need-shape_of-out
same_length c = search rules

returns : tie.Need-returns
returns c = let h = c in let s = h in gave_gives c.args.t c.args.p _ _ _ _ _ c.hand_out-h.ensures c.is_ended.ensures

pub handed_spec : {M : Type 1} → statement M
handed_spec = tie.close (tie.spec hand-out-requires is-ended-requires same_length returns)
