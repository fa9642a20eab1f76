-- -1 - z turns the sign of z and keeps the range. Assumes nothing.
use Prim.Native.Nat.{ℕ, zero, suc, ◌-◌, ◌<◌}
use mathlib.Core.Path.{◌≡◌, refl, ap}
use native.Mathlib.Omega.{arith}
use lib.IntN.{pos, negsuc, neg_ℤ, ◌-ℤ◌}

pub turn-pos : (n : ℕ) → negsuc 0 -ℤ pos n ≡ negsuc n
turn-pos zero = refl
turn-pos (suc n) = ap negsuc (omega arith)

pub negℤ_pos : (n : ℕ) → 0 < n → negsuc (n - 1) ≡ neg_ℤ (pos n)
negℤ_pos zero h = absurd (omega arith)
negℤ_pos (suc n) h = ap negsuc (omega arith)
