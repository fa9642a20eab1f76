use Rattle.std.proofs.Common.{◌≡◌, ◌/◌, length}
use Rattle.gate_qasm.specs.Text.{are_lines}
use Rattle.gate_qasm.proofs.lines.are_lines.Given as goal

abbrev pub invariant-loop-i : goal.invariant-loop-i
invariant-loop-i l = are_lines l.i l.text ≡ are_lines (length l.text / 8) l.text
