use Rattle.std.proofs.Common.{◌≡◌, ◌≤◌, max, length}
use Rattle.text_scan.specs.Run.{end_of_run, is_byte}
use Rattle.text_scan.proofs.run_end.Given as goal

abbrev pub invariant-loop-i : goal.invariant-loop-i
invariant-loop-i l = (end_of_run (is_byte l.b l.same) l.s l.i ≡ end_of_run (is_byte l.b l.same) l.s l.at) × (l.i ≤ max l.at (length l.s))
