use native.Mathlib.Omega.{arith}
use Prim.Native.Nat.{◌^◌}
use lib.IntN.{◌-ℤ◌, ◌*ℤ◌}
use mir.Syntax.{w64}
use mir.Val.{SFits}
use mir.Facts.{sfits_widen}
use borrow.Author.Rules.{rules}
use Rattle.integers.specs.lemmas.Size.{size-*≤, size→fits, fits→size}
use Rattle.operator.specs.Bounded.{crossed-size}
use Rattle.operator.proofs.determinant.crossed.Statement.{statement}
use Rattle.operator.proofs.determinant.crossed.Tie as tie

fits : (c : tie.Start) → let a = c.args in
    SFits w64 a.x × SFits w64 a.y × SFits w64 a.z × SFits w64 a.w × SFits w64 (◌*ℤ◌ a.x a.y) × SFits w64 (◌*ℤ◌ a.z a.w) × SFits w64 (◌-ℤ◌ (◌*ℤ◌ a.x a.y) (◌*ℤ◌ a.z a.w))
fits c =
    let a = c.args in
    let f = c.ranges in (
      sfits_widen tt f.x,
      sfits_widen tt f.y,
      sfits_widen tt f.z,
      sfits_widen tt f.w,
      size→fits (omega (arith, size-*≤ a.x a.y (2 ^ 15) (2 ^ 15) (fits→size f.x) (fits→size f.y))),
      size→fits (omega (arith, size-*≤ a.z a.w (2 ^ 15) (2 ^ 15) (fits→size f.z) (fits→size f.w))),
      size→fits (omega (arith, crossed-size f.x f.y f.z f.w)),
    )

cast-result : tie.Need-overflow_cast-result
cast-result c = let h = fits c in search rules

cast-result-2 : tie.Need-overflow_cast-result-2
cast-result-2 c = let h = fits c in search rules

mul-result : tie.Need-overflow_mul-result
mul-result c = let h = fits c in search rules

cast-result-3 : tie.Need-overflow_cast-result-3
cast-result-3 c = let h = fits c in search rules

cast-result-4 : tie.Need-overflow_cast-result-4
cast-result-4 c = let h = fits c in search rules

mul-result-2 : tie.Need-overflow_mul-result-2
mul-result-2 c = let h = fits c in search rules

sub-result : tie.Need-overflow_sub-result
sub-result c = let h = fits c in search rules

returns : tie.Need-returns
returns c = let h = fits c in search rules

pub crossed_spec : {M : Type 1} → statement M
crossed_spec =
    tie.close
    (tie.spec
    cast-result
    cast-result-2
    mul-result
    cast-result-3
    cast-result-4
    mul-result-2
    sub-result
    returns)
