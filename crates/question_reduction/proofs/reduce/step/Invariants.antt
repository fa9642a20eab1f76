use Rattle.question_reduction.specs.Undoing.{Undoing}
use Rattle.question_reduction.proofs.reduce.step.Given as goal

abbrev pub invariant-loop-i : goal.invariant-loop-i
invariant-loop-i l = Undoing l.best.turn
