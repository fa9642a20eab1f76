use mathlib.Core.Path.{refl}
use native.Mathlib.Omega.{arith}
use lib.IntN.{◌*ℤ◌}
use mir.Syntax.{w16, w64}
use mir.Val.{SFits}
use mir.Facts.{to_z-of_z, sfits_widen}
use borrow.Author.Rules.{rules}
use Rattle.integers.specs.lemmas.Size.{size→fits}
use Rattle.operator.specs.lemmas.Adjugate.{unit_size}
use Rattle.operator.proofs.scaled.Statement.{statement}
use Rattle.operator.proofs.scaled.Tie as tie

fits : (c : tie.Start) → let a = c.args in SFits w64 a.x × SFits w64 (◌*ℤ◌ a.k a.x) × SFits w16 (◌*ℤ◌ a.k a.x)
fits c =
    let e = unit_size c.args.k c.args.x c.requires.0 in
    (sfits_widen tt c.ranges.x, size→fits (omega arith), size→fits (omega arith))

cast-result : tie.Need-overflow_cast-result
cast-result c = let h = fits c in search rules

mul-result : tie.Need-overflow_mul-result
mul-result c = let h = fits c in search rules

cast-result-2 : tie.Need-overflow_cast-result-2
cast-result-2 c = let h = fits c in rw (to_z-of_z c.ranges.k, to_z-of_z c.ranges.x, to_z-of_z h.0, to_z-of_z h.1) h.2

returns : tie.Need-returns
returns c = let h = fits c in rw (to_z-of_z c.ranges.k, to_z-of_z c.ranges.x, to_z-of_z h.0, to_z-of_z h.1, to_z-of_z h.2) refl

pub scaled_spec : {M : Type 1} → statement M
scaled_spec = tie.close (tie.spec cast-result mul-result cast-result-2 returns)
