use Rattle.std.proofs.Common.{◌≡◌, ◌+◌, ◌*◌, ◌≤◌, length}
use Rattle.gate_qasm.proofs.Writing.{text_from}
use Rattle.gate_qasm.proofs.lines.lines_of.Given as goal

abbrev pub invariant-loop-i : goal.invariant-loop-i
invariant-loop-i l = (l.n + l.i ≤ length l.word) × (8 * l.n ≡ length (text_from l.word l.i))
