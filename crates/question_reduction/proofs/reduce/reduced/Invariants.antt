use Rattle.question_reduction.specs.Undoing.{Undoing}
use Rattle.question_reduction.proofs.reduce.reduced.Given as goal

abbrev pub invariant-loop : goal.invariant-loop
invariant-loop l = Undoing l.best.turn
