-- A sum of two words and one, with its carry; numbers below 2^128 are kept, and what passes it is dropped once for all.
use Rattle.std.specs.Prelude.{◌≡◌, ℕ, ◌+◌, ◌*◌, ◌/◌, ◌%◌, ◌^◌, ◌<◌, ◌≤◌}
use Rattle.std.proofs.Math.Path.{refl}
use Rattle.std.proofs.Common.{sym, ap, ◌∙◌, div-lt_iff_lt-mul, div-add-mod', lit≤}
use Rattle.std.proofs.Math.Nat.{mul-add-div_right, mul-add-mod_self_right, mod-eq_of_lt}
use native.Mathlib.Omega.{arith}
use Rattle.integers_wide.specs.declared.Size.{Size}
use Rattle.integers_wide.specs.Meaning.{word, size_of, wrapped}

-- a number with its words apart
module _ (B h l n : ℕ) (pos : 0 < B) where
  lower : (h * B + l + n) % B ≡ (l + n) % B
  lower =
      let e : h * B + l + n ≡ h * B + (l + n) = omega arith in
      rw (e, mul-add-mod_self_right h B (l + n))

  upper : (h * B + l + n) / B ≡ h + (l + n) / B
  upper =
      let e : h * B + l + n ≡ h * B + (l + n) = omega arith in
      rw (e, mul-add-div_right pos h (l + n))

abbrev words : ℕ → ℕ → Size
words h l = record { hi = h; lo = l }

module _ (w : Size) (n : ℕ) (fits : w.lo < word) (small : n < word) where
  -- the lower word wraps exactly where it comes out below what was added
  pub plus-carried : (w.lo + n) % word < n → words ((w.hi + 1) % word) ((w.lo + n) % word) ≡ wrapped (size_of w + n)
  unfolding size_of wrapped
  plus-carried h =
      let one : (w.lo + n) / word ≡ 1 = omega arith in
      rw (lower word w.hi w.lo n (omega arith), upper word w.hi w.lo n (omega arith), one) refl

  pub plus-plain : w.hi < word → n ≤ (w.lo + n) % word → words w.hi ((w.lo + n) % word) ≡ wrapped (size_of w + n)
  unfolding size_of wrapped
  plus-plain g h =
      let none : w.hi + (w.lo + n) / word ≡ w.hi = omega arith in
      rw (lower word w.hi w.lo n (omega arith), upper word w.hi w.lo n (omega arith), none, mod-eq_of_lt g) refl

-- ---- a number kept in two words, and raised
module _ (B : ℕ) (some : 0 < B) where
  dropped-lower : (p x : ℕ) → (p * B * B + x) % B ≡ x % B
  dropped-lower p x = mul-add-mod_self_right (p * B) B x

  dropped-upper : (p x : ℕ) → (p * B * B + x) / B % B ≡ x / B % B
  dropped-upper p x = rw (mul-add-div_right some (p * B) x) (mul-add-mod_self_right p B (x / B))

  apart : (a : ℕ) → a ≡ a / B / B * B * B + (a / B % B * B + a % B)
  apart a = go (a / B) (a / B / B) (a / B % B) (a % B) (div-add-mod' a B) (div-add-mod' (a / B) B)
    where
      go : (q p r s : ℕ) → q * B + s ≡ a → p * B + r ≡ q → a ≡ p * B * B + (r * B + s)
      go q p r s e f = sym e ∙ rw (← f) (omega arith)

  kept-lower : (a n : ℕ) → (a / B % B * B + a % B + n) % B ≡ (a + n) % B
  kept-lower a n =
      let p = a / B / B in
      let x = a / B % B * B + a % B in
      let e : p * B * B + (x + n) ≡ a + n = omega (arith, apart a) in
      sym (dropped-lower p (x + n)) ∙ ap (λ (m : ℕ). m % B) e

  kept-upper : (a n : ℕ) → (a / B % B * B + a % B + n) / B % B ≡ (a + n) / B % B
  kept-upper a n =
      let p = a / B / B in
      let x = a / B % B * B + a % B in
      let e : p * B * B + (x + n) ≡ a + n = omega (arith, apart a) in
      sym (dropped-upper p (x + n)) ∙ ap (λ (m : ℕ). m / B % B) e

  two_words : (n : ℕ) → n < B * B → n / B % B * B + n % B ≡ n
  two_words n k = rw (mod-eq_of_lt ((div-lt_iff_lt-mul some).1 k)) (div-add-mod' n B)

pub wrapped-more : (a n : ℕ) → wrapped (size_of (wrapped a) + n) ≡ wrapped (a + n)
unfolding size_of wrapped
wrapped-more a n = λ i. record { hi = kept-upper word (lit≤ tt) a n i; lo = kept-lower word (lit≤ tt) a n i }

pub wrapped_same : (n : ℕ) → n < 2 ^ 128 → size_of (wrapped n) ≡ n
unfolding size_of wrapped
wrapped_same n h = two_words (2 ^ 64) (lit≤ tt) n h
