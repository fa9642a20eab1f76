-- `rewind` meets its contract. Assumes nothing.
use Rattle.std.proofs.Common.{◌∙◌}
use Rattle.session_tallied.proofs.rewind.Goals as goal

pub returns : goal.returns
returns c = let k = c.kept.ensures in record { met = rw (k.0, k.2) c.rewind-o.ensures.steps; tally = rw k.2 (k.1 ∙ c.restarted.ensures) }
