use mir.Facts.{to_z-of_z}
use Rattle.gate_clifford.specs.lemmas.Place.{positive-is}
use Rattle.gate_clifford.proofs.tails.positive.Statement.{statement}
use Rattle.gate_clifford.proofs.tails.positive.Tie as tie

returns : tie.Need-returns
returns c = rw (to_z-of_z c.ranges.z) (positive-is c.args.z)

pub positive_spec : {M : Type 1} → statement M
positive_spec = tie.close (tie.spec returns)
