-- An operator with its inverse, and its numbers as directions.
use Rattle.std.specs.Prelude.{◌≡◌, Ok}
use Rattle.std.proofs.Common.{arith}
use Rattle.integers.specs.lemmas.Size.{size-+, size--}
use Rattle.ring.specs.Point.{√2x, √2y, √2x_parts, √2y_parts}
use Rattle.operator.specs.Inverse.{inverse_of, one, im}
use Rattle.operator.specs.lemmas.Undoes.{inverse_is}
use Rattle.operator.specs.Accepted.{accepted}
use Rattle.question_strips.specs.Reach.{Direction}
use Rattle.question_reduction.specs.declared.Invertible.{Invertible}

-- an operator and its inverse
pub record Undoing (g : Invertible) : Type 0 where
  pub undone : inverse_of g.there ≡ Ok g.back

pub direction_x : (g : Invertible) → Undoing g → Direction (√2x (one g.there)) (√2x (im g.there))
direction_x g u =
    let s = (accepted g.there (inverse_is _ _ u.undone).0).small in
    rw (√2x_parts, √2x_parts) (record {
      first = record { p = omega (arith, s.c, s.a, size-- g.there.c g.there.a); q = omega (arith, s.d) };
      second = record { p = omega (arith, s.ci, s.ai, size-- g.there.ci g.there.ai); q = omega (arith, s.di) };
    })

pub direction_y : (g : Invertible) → Undoing g → Direction (√2y (one g.there)) (√2y (im g.there))
direction_y g u =
    let s = (accepted g.there (inverse_is _ _ u.undone).0).small in
    rw (√2y_parts, √2y_parts) (record {
      first = record { p = omega (arith, s.c, s.a, size-+ g.there.c g.there.a); q = omega (arith, s.b) };
      second = record { p = omega (arith, s.ci, s.ai, size-+ g.there.ci g.there.ai); q = omega (arith, s.bi) };
    })
