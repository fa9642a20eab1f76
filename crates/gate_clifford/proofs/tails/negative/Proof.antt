use mir.Facts.{to_z-of_z}
use Rattle.gate_clifford.specs.lemmas.Place.{negative-is}
use Rattle.gate_clifford.proofs.tails.negative.Statement.{statement}
use Rattle.gate_clifford.proofs.tails.negative.Tie as tie

returns : tie.Need-returns
returns c = rw (to_z-of_z c.ranges.z) (negative-is c.args.z)

pub negative_spec : {M : Type 1} → statement M
negative_spec = tie.close (tie.spec returns)
