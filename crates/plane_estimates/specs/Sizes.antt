-- The sizes of a guessed fraction.
use Rattle.std.specs.Prelude.{◌^◌, ◌≤◌}
use Rattle.plane_estimates.specs.declared.fraction.Fraction.{Fraction}

-- a guess: any numbers of these sizes will do
pub record FractionSize (f : Fraction) : Type 0 where
  pub p-size : f.p ≤ 2 ^ 41
  pub q-low : 1 ≤ f.q
  pub q-high : f.q ≤ 256
