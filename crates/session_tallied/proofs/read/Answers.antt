-- `read` meets its contract. Assumes nothing.
use Rattle.session_tallied.proofs.read.Goals as goal

pub returns : goal.returns
returns c = let k = c.kept.ensures in record { met = rw (k.0, k.2) c.read.ensures.steps; tally = k.1 }
