-- Decimal digits: one for a number below 10, else those of n / 10 and the last; so they are the fewest digits that hold n, as `io`
-- has them. Assumes nothing.
use Prim.Native.Nat.{ℕ, zero, suc, ◌+◌, ◌-◌, ◌*◌, ◌/◌, ◌%◌, ◌^◌, ◌≤◌, ◌<◌}
use mathlib.Core.Path.{◌≡◌, sym, ap, ◌∙◌}
use mathlib.Core.List.{List, [], ◌∷◌, ◌++◌}
use native.Mathlib.Nat.{pow-suc, one-le-pow}
use native.Mathlib.Decide.{dec_lt}
use native.Mathlib.Omega.{arith}
use borrow.Author.Tests.{lt-ltb, le-ltb}
use lib.ListN.{length, length-append}
use Rattle.io.specs.Digits.{hex_digit_ascii, last_digits, IsDigitCount}
use Rattle.text.specs.Decimal.{decimal_within, decimal}

within-one : (most n : ℕ) → n < 10 → decimal_within (suc most) n ≡ (48 + n) ∷ []
unfolding decimal_within
within-one most n h = rw (lt-ltb n 10 h, decimal_within)

within_more : (most n : ℕ) → 10 ≤ n → decimal_within (suc most) n ≡ decimal_within most (n / 10) ++ ((48 + n % 10) ∷ [])
unfolding decimal_within
within_more most n h = rw (le-ltb n 10 h, decimal_within)

-- room for n digits more than the first is enough
within-enough : (m k n : ℕ) → n ≤ m → n ≤ k → decimal_within (suc m) n ≡ decimal_within (suc k) n
within-enough zero k n p q = within-one zero n (omega arith) ∙ sym (within-one k n (omega arith))
within-enough (suc m) zero n p q = within-one (suc m) n (omega arith) ∙ sym (within-one zero n (omega arith))
within-enough (suc m) (suc k) n p q =
    elim (dec_lt n 10) [
      | yes h ↦ within-one (suc m) n h ∙ sym (within-one (suc k) n h)
      | no h ↦
          within_more (suc m) n (omega arith)
          ∙ ap (λ (ds : List ℕ). ds ++ ((48 + n % 10) ∷ [])) (within-enough m k (n / 10) (omega arith) (omega arith))
          ∙ sym (within_more (suc k) n (omega arith))
    ]

pub decimal-one : (n : ℕ) → n < 10 → decimal n ≡ (48 + n) ∷ []
unfolding decimal
decimal-one n h = within-one n n h

pub decimal-more : (n : ℕ) → 10 ≤ n → decimal n ≡ decimal (n / 10) ++ ((48 + n % 10) ∷ [])
unfolding decimal
decimal-more zero h = absurd (omega arith)
decimal-more (suc n) h =
    within_more (suc n) (suc n) h
    ∙ ap (λ (ds : List ℕ). ds ++ ((48 + suc n % 10) ∷ [])) (within-enough n (suc n / 10) (suc n / 10) (omega arith) (omega arith))

pub decimal-two : (n : ℕ) → 10 ≤ n → n < 100 → decimal n ≡ (48 + n / 10) ∷ (48 + n % 10) ∷ []
decimal-two n h k = decimal-more n h ∙ rw (decimal-one (n / 10) (omega arith))

pub decimal-some : (n : ℕ) → 0 < length (decimal n)
decimal-some n =
    elim (dec_lt n 10) [
      | yes h ↦ rw (decimal-one n h) (omega arith)
      | no h ↦ rw (decimal-more n (omega arith), length-append) (omega arith)
    ]

fewest_less : (n k : ℕ) → IsDigitCount 10 1 n (suc (suc k)) → (10 ≤ n) × IsDigitCount 10 1 (n / 10) (suc k)
fewest_less n k h =
    let pred : suc (suc k) - 1 ≡ suc k = omega arith in
    let pred' : suc k - 1 ≡ k = omega arith in
    let least : 10 ^ suc k ≤ n = rw pred at (h.2 (omega arith)) in
    let below : n < 10 ^ suc k * 10 = rw pow-suc at h.1 in
    let ten : 10 ^ suc k ≡ 10 ^ k * 10 = pow-suc 10 k in
    let some : 0 < 10 ^ k = one-le-pow k 10 (omega arith) in
    (omega arith, (omega arith, omega arith, λ _. rw pred' (omega arith)))

glyph_digit : (d : ℕ) → d < 10 → hex_digit_ascii d ≡ 48 + d
glyph_digit d h = rw (lt-ltb d 10 h)

pub decimal-digits : (k n : ℕ) → IsDigitCount 10 1 n k → decimal n ≡ last_digits 10 k n
decimal-digits zero n h = absurd (omega arith)
decimal-digits (suc zero) n h =
    let e : n % 10 ≡ n = omega arith in
    decimal-one n (omega arith) ∙ rw (e, glyph_digit n (omega arith))
decimal-digits (suc (suc k)) n h =
    let g = fewest_less n k h in
    decimal-more n g.0 ∙ rw (decimal-digits (suc k) (n / 10) g.1, glyph_digit (n % 10) (omega arith))
