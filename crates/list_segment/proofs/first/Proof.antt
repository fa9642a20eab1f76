-- `first` meets its contract. Assumes nothing.
use mir.Facts.{to_z-of_z}
use Rattle.list_segment.specs.Ranks.{first-rank}
use Rattle.list_segment.proofs.first.Statement.{statement}
use Rattle.list_segment.proofs.first.Tie as tie

returns : tie.Need-returns
returns c = rw (to_z-of_z c.ranges.a) (first-rank c.args.a c.ranges.a)

pub first_spec : {M : Type 1} → statement M
first_spec = tie.close (tie.spec returns)
