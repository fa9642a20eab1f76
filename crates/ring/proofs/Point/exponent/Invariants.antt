use Rattle.std.proofs.Common.{◌≡◌}
use Rattle.ring.specs.Point.Exponent.{exponent_of}
use Rattle.ring.proofs.Point.exponent.Given as goal

abbrev pub invariant-loop-e : goal.invariant-loop-e
invariant-loop-e l = exponent_of l.e l.v ≡ exponent_of l.fn.k l.fn.self
