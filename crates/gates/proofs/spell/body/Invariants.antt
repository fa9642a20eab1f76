use Rattle.std.specs.Prelude.{◌-◌}
use Rattle.gates.specs.Start.{Left}
use Rattle.gates.proofs.spell.body.Given as goal

abbrev pub invariant-loop : goal.invariant-loop
invariant-loop l = Left l.r l.initial.x l.initial.out (l.r - l.counter) l.x l.out
