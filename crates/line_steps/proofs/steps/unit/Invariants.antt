use Rattle.line_steps.proofs.steps.unit.Given as goal

-- nothing has to last
abbrev pub invariant-loop-k : goal.invariant-loop-k
invariant-loop-k l = Unit {0}
