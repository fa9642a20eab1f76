-- `grown` meets its contract. Assumes nothing.
use Rattle.session_stages.specs.Session.{meaning}
use Rattle.session_tallying.specs.lemmas.Points.{handed-dealt}
use Rattle.session_tallying.proofs.grown.Goals as goal

pub counted-requires : goal.counted-requires
counted-requires c = handed-dealt (meaning c.args.s) c.args.points.now _ _ (rw c.in-Handed.is at c.requires)
