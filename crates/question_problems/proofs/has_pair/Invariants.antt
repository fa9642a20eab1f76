use Rattle.std.proofs.Common.{◌≤◌, ◌+◌}
use Rattle.question_problems.specs.Rows.{top}
use Rattle.question_problems.specs.lemmas.Nest.{Rows}
use Rattle.question_problems.proofs.has_pair.Given as goal

-- the rows before t have no pair
abbrev pub invariant-loop-t : goal.invariant-loop-t
invariant-loop-t l = record {
  within : l.t ≤ top + 1;
  rows : Rows l.l (λ z. Unit {0}) l.t;
}
