-- `clear` meets its contract. Assumes nothing.
use Rattle.std.proofs.Common.{◌∙◌}
use Rattle.session_tallying.proofs.clear.Goals as goal

pub returns : goal.returns
returns c = let k = c.kept.ensures in record { met = rw (k.0, k.2) c.clear.ensures; tally = k.1 ∙ c.zero.ensures }
