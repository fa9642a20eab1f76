use Rattle.std.proofs.Common.{length}
use Rattle.system_transfer.specs.Transfer.{load}
use Rattle.system_transfer.specs.Receiving.{Reading}
use Rattle.system_streams.proofs.reading.gather.Given as goal

abbrev pub invariant-loop-last : goal.invariant-loop-last
invariant-loop-last g l = Reading (length l.fn.buf) l.buf l.t

abbrev pub decreases-loop-last : goal.decreases-loop-last
decreases-loop-last g l = load (length l.fn.buf) l.t
