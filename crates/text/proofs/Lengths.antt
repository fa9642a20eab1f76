-- How many digits a number has. Assumes nothing.
use Prim.Native.Nat.{ℕ, zero, suc, ◌+◌, ◌*◌, ◌/◌, ◌^◌, ◌≤◌, ◌<◌}
use mathlib.Core.Path.{◌≡◌}
use native.Mathlib.Nat.{pow-suc, lt_of_lt_of_le}
use native.Mathlib.Decide.{dec_lt}
use native.Mathlib.Omega.{arith}
use lib.Dec.{lit≤}
use lib.IntN.{ℤ, pos, negsuc}
use lib.Signed.{mag}
use lib.ListN.{length, length-append}
use Rattle.text.specs.Decimal.{decimal, signed_decimal}
use Rattle.text.proofs.Digits.{decimal-one, decimal-more}

pub decimal-length : (m n : ℕ) → n < 10 ^ suc m → length (decimal n) ≤ suc m
decimal-length zero n h = rw (decimal-one n h) (omega arith)
decimal-length (suc m) n h =
    elim (dec_lt n 10) [
      | yes k ↦ rw (decimal-one n k) (omega arith)
      | no k ↦
          let p : 10 ^ suc (suc m) ≡ 10 ^ suc m * 10 = pow-suc 10 (suc m) in
          let l = decimal-length m (n / 10) (omega arith) in
          rw (decimal-more n (omega arith), length-append) (omega arith)
    ]

pub unsigned_length : (n : ℕ) → n < 2 ^ 64 → length (decimal n) ≤ 20
unsigned_length n h = decimal-length 19 n (lt_of_lt_of_le h (lit≤ tt))

pub signed-length : (z : ℤ) → mag z < 2 ^ 63 → length (signed_decimal z) ≤ 20
unfolding signed_decimal
signed-length (pos n) h = decimal-length 19 n (lt_of_lt_of_le h (lit≤ tt))
signed-length (negsuc n) h = let l = decimal-length 18 (suc n) (lt_of_lt_of_le {m = 2 ^ 63 + 1} (omega arith) (lit≤ tt)) in omega arith
