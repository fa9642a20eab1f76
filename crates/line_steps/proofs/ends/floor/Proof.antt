use mathlib.Core.Path.{refl}
use Prim.Native.Nat.{◌≤◌}
use native.Mathlib.Omega.{arith}
use lib.Dec.{T}
use lib.IntN.{ℤ, pos, nat_abs, ◌+ℤ◌, ◌*ℤ◌}
use lib.Signed.{non_neg}
use mir.Syntax.{w64}
use mir.Val.{SFits}
use mir.Facts.{to_z-of_z}
use Rattle.integers.specs.Difference.{◌≼◌}
use Rattle.integers.specs.lemmas.Size.{size-+, size-*≤, size→fits}
use Rattle.line_steps.specs.Line.{bound}
use Rattle.line_steps.specs.Ends.{up-nn, N-one, n_is}
use Rattle.line_steps.proofs.ends.floor.Statement.{statement}
use Rattle.line_steps.proofs.ends.floor.Tie as tie

nonNeg-of : (z : ℤ) → pos 0 ≼ z → T (non_neg z)
nonNeg-of (pos n) h = tt
nonNeg-of (lib.IntN.negsuc n) h = h.le

record Fits (c : tie.Start) : Type 0 where
  pub product : SFits w64 (pos bound *ℤ c.args.n)
  pub sum : SFits w64 (c.args.x +ℤ pos bound *ℤ c.args.n)
  pub size : nat_abs (c.args.x +ℤ pos bound *ℤ c.args.n) ≤ 2000000

fits : (c : tie.Start) → Fits c
fits c =
    let e = size-*≤ (pos bound) c.args.n bound 100 (omega arith) c.requires.scale in
    let f = size-+ c.args.x (pos bound *ℤ c.args.n) in
    let g = c.requires.size in
    record { product = size→fits (omega arith); sum = size→fits (omega arith); size = omega arith }

mul-result : tie.Need-overflow_mul-result
mul-result c = rw (to_z-of_z c.ranges.n) (fits c).product

add-result : tie.Need-overflow_add-result
add-result c = rw (to_z-of_z c.ranges.n, to_z-of_z c.ranges.x, to_z-of_z (fits c).product) (fits c).sum

cast-result : tie.Need-overflow_cast-result
cast-result c =
    let f = fits c in
    let h = f.size in
    rw (to_z-of_z c.ranges.n, to_z-of_z c.ranges.x, to_z-of_z f.product, to_z-of_z f.sum) (nonNeg-of _ (up-nn c.args.n c.args.x c.requires.one c.requires.from), omega arith)

cast-result-2 : tie.Need-overflow_cast-result-2
cast-result-2 c =
    let h = c.requires.scale in
    rw (to_z-of_z c.ranges.n) (rw (n_is c.args.n c.args.x c.requires.one c.requires.from) tt, omega arith)

div-result : tie.Need-nonzero_div-result
div-result c = rw (to_z-of_z c.ranges.n) (N-one c.args.n c.args.x c.requires.one c.requires.from)

returns : tie.Need-returns
returns c = rw (to_z-of_z c.ranges.n, to_z-of_z c.ranges.x, to_z-of_z (fits c).product, to_z-of_z (fits c).sum) refl

pub floor_spec : {M : Type 1} → statement M
floor_spec =
    tie.close (tie.spec mul-result add-result cast-result cast-result-2 div-result returns)
