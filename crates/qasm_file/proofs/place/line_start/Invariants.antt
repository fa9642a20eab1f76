use Rattle.std.proofs.Common.{◌≡◌, length}
use Rattle.qasm_file.specs.File.{line_start}
use Rattle.qasm_file.proofs.place.line_start.Given as goal

abbrev pub invariant-loop-i : goal.invariant-loop-i
invariant-loop-i l = line_start l.s l.i ≡ line_start l.s (length l.s)
