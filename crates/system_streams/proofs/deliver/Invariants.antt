use Rattle.std.proofs.Common.{length}
use Rattle.system_transfer.specs.Transfer.{load}
use Rattle.system_transfer.specs.Sending.{Going}
use Rattle.system_streams.proofs.deliver.Given as goal

abbrev pub invariant-loop-t : goal.invariant-loop-t
invariant-loop-t g l = Going l.text l.t

abbrev pub decreases-loop-t : goal.decreases-loop-t
decreases-loop-t g l = load (length l.text) l.t
