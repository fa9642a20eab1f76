use Rattle.std.proofs.Common.{◌-◌, ◌≤◌, length}
use Rattle.text_input_lines.specs.Fed.{Feeding}
use Rattle.console.proofs.answer_all.Given as goal

abbrev pub invariant-loop-i : goal.invariant-loop-i
invariant-loop-i g l = (l.i ≤ length l.chunk) × Feeding l.fn.t.gathered l.chunk l.gathered l.initial.line l.line l.i

abbrev pub decreases-loop-i : goal.decreases-loop-i
decreases-loop-i g l = length l.chunk - l.i
