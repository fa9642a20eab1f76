use mir.Syntax.{w64}
use mir.Val.{SFits}
use mir.Facts.{to_z-of_z}
use native.Mathlib.Omega.{arith}
use lib.IntN.{◌+ℤ◌, ◌*ℤ◌}
use mathlib.Core.Path.{refl}
use borrow.Author.Rules.{rules}
use Rattle.integers.specs.lemmas.Size.{size→fits}
use Rattle.pattern_apart.proofs.is_below.Statement.{statement}
use Rattle.pattern_apart.proofs.is_below.Tie as tie

fits : (c : tie.Start) → let a = c.args in SFits w64 (a.m *ℤ a.h) × SFits w64 (a.n *ℤ a.g) × SFits w64 (a.m *ℤ a.h +ℤ a.n *ℤ a.g)
fits c = (size→fits (omega (arith, c.requires.first)), size→fits (omega (arith, c.requires.second)), size→fits (omega (arith, c.requires.sum)))

mul-result : tie.Need-overflow_mul-result
mul-result c = let f = fits c in search rules

mul-result-2 : tie.Need-overflow_mul-result-2
mul-result-2 c = let f = fits c in search rules

add-result : tie.Need-overflow_add-result
add-result c = let f = fits c in search rules

returns : tie.Need-returns
returns c =
    let f = fits c in
    let a = c.ranges in
    simp (to_z-of_z a.m, to_z-of_z a.h, to_z-of_z a.n, to_z-of_z a.g, to_z-of_z f.0, to_z-of_z f.1, to_z-of_z f.2) refl

pub is_below_spec : {M : Type 1} → statement M
is_below_spec = tie.close (tie.spec mul-result mul-result-2 add-result returns)
