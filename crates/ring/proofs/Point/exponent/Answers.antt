-- The loop ends at 0.
use Rattle.std.proofs.Common.{ℕ, sym, ◌∙◌, ap, arith}
use Rattle.ring.specs.Point.Exponent.{exponent_of, exponent_zero}
use Rattle.ring.proofs.Point.exponent.Goals as goal

pub returns : goal.returns
returns c =
    let l = c.loop-e in
    sym (exponent_zero l.v) ∙ ap (λ (n : ℕ). exponent_of n l.v) (omega arith) ∙ l.invariant
