use Rattle.std.proofs.Common.{◌≡◌, length}
use Rattle.list_states.specs.State.{state_of}
use Rattle.list_output.specs.Pieces.{most}
use Rattle.list_printing.specs.Printed.{Going}
use Rattle.list_printing.proofs.print_from.Given as goal

abbrev pub invariant-loop-out : goal.invariant-loop-out
invariant-loop-out g l = (length l.out ≡ 131072) × Going l.fn.from l.o

abbrev pub decreases-loop-out : goal.decreases-loop-out
decreases-loop-out g l = most (state_of l.o)
