-- `plus` meets its contract. Assumes nothing.
use Rattle.std.proofs.Common.{rules}
use Rattle.session_tally.specs.lemmas.Kept.{added_none, added_next, added-all}
use Rattle.session_tally.proofs.Tally.plus.Goals as goal

pub loop-e-init : goal.loop-e-init
loop-e-init c = added_none c.args.more _

pub loop-e-preserved : goal.loop-e-preserved
loop-e-preserved c = added_next c.args.more c.args.self.counts c.loop-e.counts c.loop-e.e _ c.plus.result c.loop-e.invariant c.plus.ensures (search rules) (search rules)

pub returns : goal.returns
returns c = added-all c.args.more _ _ c.loop-e.e c.loop-e.invariant (search rules)
