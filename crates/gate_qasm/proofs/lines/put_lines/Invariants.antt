use Rattle.std.proofs.Common.{◌≤◌, length}
use Rattle.text.specs.Append.{Appended}
use Rattle.gate_qasm.proofs.Writing.{text_from}
use Rattle.gate_qasm.proofs.lines.put_lines.Given as goal

abbrev pub invariant-loop-i : goal.invariant-loop-i
invariant-loop-i l = Appended l.initial.out 0 (text_from l.word l.i) l.out l.at
