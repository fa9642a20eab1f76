-- The first e counts are raised. Assumes nothing.
use Rattle.std.proofs.Common.{◌≡◌, take}
use Rattle.session_tally.specs.Spread.{added}
use Rattle.session_tally.proofs.Tally.plus.Given as goal

abbrev pub invariant-loop-e : goal.invariant-loop-e
invariant-loop-e l = l.counts ≡ added (take l.e l.fn.more) l.fn.self.counts
