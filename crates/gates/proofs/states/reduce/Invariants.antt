use Rattle.std.specs.Prelude.{◌≡◌}
use Rattle.gate_theory.specs.Word.{reduced}
use Rattle.gates.proofs.states.reduce.Given as goal

abbrev pub invariant-loop-e : goal.invariant-loop-e
invariant-loop-e l = reduced l.e l.x l.y ≡ reduced l.k l.initial.x l.initial.y
