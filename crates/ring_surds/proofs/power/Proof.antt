use mathlib.Core.Path.{◌≡◌, refl, sym, ◌∙◌, ap}
use Prim.Native.Nat.{ℕ, ◌*◌, ◌/◌, ◌%◌, ◌^◌, ◌≤◌}
use native.Mathlib.Omega.{arith}
use lib.IntN.{pos}
use lib.Pow.{pow_mono, shl_exact}
use mir.Syntax.{w64}
use mir.Facts.{to_z_pos}
use borrow.Author.Rules.{rules}
use Rattle.ring.specs.RootTwo.{ext}
use Rattle.ring.specs.RootTwo.Power.{power-even, power-odd}
use Rattle.ring_surds.proofs.power.Statement.{statement}
use Rattle.ring_surds.proofs.power.Tie as tie

cast-h : tie.Need-overflow_cast-h
cast-h c = search rules

shl-h : tie.Need-overflow_shl-h
shl-h c = search rules

small : (k : ℕ) → k ≤ 125 → ((1 * 2 ^ (k / 2)) % 2 ^ 64 ≡ 2 ^ (k / 2)) × (2 ^ (k / 2) ≤ 2 ^ 62)
small k h = (shl_exact 1 (k / 2) 64 (omega arith) (omega arith) ∙ omega arith, pow_mono {i = k / 2} {j = 62} (omega arith))

cast-t7 : tie.Need-overflow_cast-result
cast-t7 c = let s = small c.args.k c.requires in record { sfits = omega arith }

cast-t8 : tie.Need-overflow_cast-result-else-k-eq0
cast-t8 c = let s = small c.args.k c.requires in record { sfits = omega arith }

returns : tie.Need-returns-then-k-eq0
returns c = let s = small c.args.k c.requires in ext (to_z_pos w64 (omega arith) ∙ ap pos s.0) refl ∙ sym (power-even c.args.k (omega arith))

returns-2 : tie.Need-returns-else-k-eq0
returns-2 c = let s = small c.args.k c.requires in ext refl (to_z_pos w64 (omega arith) ∙ ap pos s.0) ∙ sym (power-odd c.args.k (omega arith))

pub power_spec : {M : Type 1} → statement M
power_spec = tie.close (tie.spec cast-h shl-h cast-t7 cast-t8 returns returns-2)
