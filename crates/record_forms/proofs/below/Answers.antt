use Rattle.record_forms.proofs.Steps.{below-start, below_again, below-done}
use Rattle.record_forms.proofs.below.Goals as goal

pub loop-init : goal.loop-init
loop-init c = below-start c.args.v c.args.size

pub loop-preserved : goal.loop-preserved
loop-preserved c = below_again c.args.v c.args.size c.loop.w c.loop.counter c.loop.invariant c.loop-test.true

pub returns : goal.returns
returns c = below-done c.args.v c.args.size c.loop.w c.loop.counter c.loop.invariant c.loop-test.false
