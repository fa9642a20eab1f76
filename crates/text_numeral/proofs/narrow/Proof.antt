-- `narrow` meets its contract. Assumes nothing.
use mathlib.Core.Path.{◌≡◌, refl}
use mathlib.Core.Bool.{true, false}
use Prim.Native.Nat.{◌+◌, ◌^◌, ◌≤◌, ◌<◌}
use native.Mathlib.Omega.{arith}
use lib.IntN.{ℤ, pos, negsuc, neg_ℤ}
use lib.Signed.{lt_z, mag}
use mir.Syntax.{w32}
use mir.Val.{SFits}
use mir.Facts.{to_z-of_z}
use Rattle.integers.specs.Difference.{≤→ℕ, up, dn}
use Rattle.integers.specs.lemmas.Tests.{lt_z_false}
use Rattle.text_numeral.proofs.narrow.Statement.{statement}
use Rattle.text_numeral.proofs.narrow.Tie as tie

-- between the two bounds
fits : (z : ℤ) → lt_z z (neg_ℤ (pos (2 ^ 31))) ≡ false → lt_z (pos 2147483647) z ≡ false → SFits w32 z
fits z e f = record { sfits = go z (≤→ℕ _ z (lt_z_false z (neg_ℤ (pos (2 ^ 31))) e)) (≤→ℕ z _ (lt_z_false (pos 2147483647) z f)) }
  where
    go : (z : ℤ) → 0 + dn z ≤ up z + 2147483648 → up z + 0 ≤ 2147483647 + dn z → mag z < 2 ^ 31
    go (pos n) h k = omega arith
    go (negsuc n) h k = omega arith

-- past the first test, and past both
module _ (c : tie.Else-z-ltminus2147483648) where
  abbrev z : ℤ
  z = c.args.z

  low : lt_z z (neg_ℤ (pos (2 ^ 31))) ≡ false
  low = rw (to_z-of_z c.ranges.z) at c.if-z-ltminus2147483648.false

module _ (c : tie.Else-z-gt2147483647) where
  high : lt_z (pos 2147483647) (z c.before) ≡ false
  high = rw (to_z-of_z c.ranges.z) at c.if-z-gt2147483647.false

  small : SFits w32 (z c.before)
  small = fits (z c.before) (low c.before) high

returns : tie.Need-returns-then-z-ltminus2147483648
returns c = let e : lt_z c.args.z (neg_ℤ (pos (2 ^ 31))) ≡ true = rw (to_z-of_z c.ranges.z) at c.if-z-ltminus2147483648.true in rw e refl

returns-2 : tie.Need-returns-then-z-gt2147483647
returns-2 c =
    let e : lt_z (pos 2147483647) (z c.before) ≡ true = rw (to_z-of_z c.ranges.z) at c.if-z-gt2147483647.true in
    rw (low c.before, e) refl

cast-t3 : tie.Need-overflow_cast-result
cast-t3 c = rw (to_z-of_z c.ranges.z) (small c)

returns-3 : tie.Need-returns
returns-3 c = rw (to_z-of_z c.ranges.z, to_z-of_z (small c), low c.before, high c) refl

pub narrow_spec : {M : Type 1} → statement M
narrow_spec = tie.close (tie.spec returns returns-2 cast-t3 returns-3)
