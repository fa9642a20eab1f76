-- Sizes of two words, h·B + l, against a size K·B. Assumes nothing.
use Prim.Native.Nat.{ℕ, zero, suc, ◌+◌, ◌*◌, ◌≤◌, ◌<◌}
use mathlib.Core.Path.{◌≡◌, refl}
use mathlib.Core.Bool.{Bool, true, false}
use lib.Dec.{ltb}
use borrow.Author.Tests.{ltb-true, ltb-false}
use native.Mathlib.Nat.{mul-le-mul_right}
use native.Mathlib.Omega.{arith}

pub above_word : (T B h l : ℕ) → T < B → (h ≡ 0 → ⊥) → T < h * B + l
above_word T B zero l t n = absurd (n refl)
above_word T B (suc h) l t n = omega arith

pub lower_only : (B h l : ℕ) → h ≡ 0 → l ≡ h * B + l
lower_only B h l e = rw e (omega arith)

module _ (B K h l : ℕ) (up : K ≤ h) where
  pub exactly : h ≤ K → l ≤ 0 → h * B + l ≡ K * B
  exactly d z = let e : h ≡ K = omega arith in rw e (omega arith)

  pub reaches : K * B ≤ h * B + l
  reaches = let m = mul-le-mul_right B up in omega arith

  pub passes : 0 < l → K * B < h * B + l
  passes p = let m = mul-le-mul_right B up in omega arith

-- ten times h·B + l and a digit d, without and with a carry: lh·B + ll is ten times l
module _ (B h l d lh ll : ℕ) (low : lh * B + ll ≡ l * 10) where
  pub ten_plain : (h * 10 + lh) * B + (ll + d) ≡ (h * B + l) * 10 + d
  ten_plain = omega arith

  pub ten_carry : (x : ℕ) → x + B ≡ ll + d → (h * 10 + lh + 1) * B + x ≡ (h * B + l) * 10 + d
  ten_carry x e = omega arith

  pub carries : l < B → lh < 10
  carries p = go (ltb lh 10) refl
    where
      go : (t : Bool) → ltb lh 10 ≡ t → lh < 10
      go true e = ltb-true lh 10 e
      go false e = let m = mul-le-mul_right B (ltb-false lh 10 e) in absurd (omega arith)

pub far : (C B K h l d : ℕ) → C ≤ K * B * 10 → K ≤ h → C ≤ (h * B + l) * 10 + d
far C B K h l d c k = let m = reaches B K h l k in omega arith
