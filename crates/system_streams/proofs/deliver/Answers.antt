use Rattle.std.proofs.Common.{[]}
use Rattle.system_transfer.specs.Sending.{begun, run-stands, go_on}
use Rattle.system_streams.proofs.deliver.Goals as goal

pub loop-t-init : goal.loop-t-init
loop-t-init g c = record { taken = []; run = rw c.begin-t.ensures begun }

pub offer-got-requires : goal.offer-got-requires
offer-got-requires g c = (run-stands c.loop-t.invariant.run).inside.room

pub loop-t-preserved : goal.loop-t-preserved
loop-t-preserved g c = go_on c.loop-t.invariant c.loop-t-test.true c.offer-got.ensures
