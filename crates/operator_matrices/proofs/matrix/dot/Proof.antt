use Prim.Native.Nat.{◌^◌}
use native.Mathlib.Omega.{arith}
use lib.IntN.{◌+ℤ◌, ◌*ℤ◌}
use mir.Syntax.{w64}
use mir.Val.{SFits}
use borrow.Author.Rules.{rules}
use Rattle.integers.specs.lemmas.Size.{size-*≤, size→fits}
use Rattle.operator_matrices.specs.Bounded.{dot_size}
use Rattle.operator_matrices.proofs.matrix.dot.Statement.{statement}
use Rattle.operator_matrices.proofs.matrix.dot.Tie as tie

fits : (c : tie.Start) → let a = c.args in SFits w64 (◌*ℤ◌ a.x a.y) × SFits w64 (◌*ℤ◌ a.u a.w) × SFits w64 (◌*ℤ◌ a.x a.y +ℤ ◌*ℤ◌ a.u a.w)
fits c =
    let a = c.args in
    let xy = size-*≤ a.x a.y (2 ^ 30) (2 ^ 30) c.requires.0 c.requires.1 in
    let uw = size-*≤ a.u a.w (2 ^ 30) (2 ^ 30) c.requires.2 c.requires.3 in
    (size→fits (omega arith), size→fits (omega arith), size→fits (omega (arith, dot_size a.x a.y a.u a.w c.requires.0 c.requires.1 c.requires.2 c.requires.3)))

mul-result : tie.Need-overflow_mul-result
mul-result c = let h = fits c in search rules

mul-result-2 : tie.Need-overflow_mul-result-2
mul-result-2 c = let h = fits c in search rules

add-result : tie.Need-overflow_add-result
add-result c = let h = fits c in search rules

returns : tie.Need-returns
returns c = let h = fits c in search rules

pub dot_spec : {M : Type 1} → statement M
dot_spec = tie.close (tie.spec mul-result mul-result-2 add-result returns)
