use mathlib.Core.Path.{refl, subst}
use Prim.Native.Nat.{ℕ}
use native.Mathlib.Omega.{arith}
use lib.IntN.{neg_ℤ}
use Rattle.ring.specs.RootTwo.{conj_parts}
use Rattle.line_rows.specs.Steps.{Even, even-conj, power_is_even, even_power}
use Rattle.line_steps.proofs.steps.power.Statement.{statement}
use Rattle.line_steps.proofs.steps.power.Tie as tie

-- the conjugate of (3 + 2√2)^k
turned : (k : ℕ) → Even (record { p = (power_is_even k).p; q = neg_ℤ (power_is_even k).q })
turned k = subst Even (conj_parts (power_is_even k)) (even-conj (even_power k))

returns : tie.Need-returns-in-0
returns c = (turned 0, record { p = omega arith; q = omega arith }, λ _. refl)

returns-2 : tie.Need-returns-in-1
returns-2 c = (turned 1, record { p = omega arith; q = omega arith }, λ h. absurd (omega arith))

returns-3 : tie.Need-returns-in-2
returns-3 c = (turned 2, record { p = omega arith; q = omega arith }, λ h. absurd (omega arith))

returns-4 : tie.Need-returns-in-3
returns-4 c = (turned 3, record { p = omega arith; q = omega arith }, λ h. absurd (omega arith))

returns-5 : tie.Need-returns-in-4
returns-5 c = (turned 4, record { p = omega arith; q = omega arith }, λ h. absurd (omega arith))

returns-6 : tie.Need-returns-in_default
returns-6 c = (turned 5, record { p = omega arith; q = omega arith }, λ h. absurd (omega arith))

pub power_spec : {M : Type 1} → statement M
power_spec = tie.close (tie.spec returns returns-2 returns-3 returns-4 returns-5 returns-6)
