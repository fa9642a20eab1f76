-- Numbers of two 64-bit words: a tenth by three short divisions. Assumes nothing.
use Prim.Native.Nat.{ℕ, zero, suc, ◌+◌, ◌-◌, ◌*◌, ◌/◌, ◌%◌, ◌^◌, ◌≤◌, ◌<◌}
use mathlib.Core.Path.{◌≡◌, refl, sym, ap, ◌∙◌}
use mathlib.Core.Bool.{true}
use mathlib.Core.List.{List, ◌∷◌, ◌++◌, append-nil}
use native.Mathlib.Nat.{mul-le-mul_right, lt_of_lt_of_le, pow-suc}
use native.Mathlib.Omega.{arith}
use borrow.Author.Tests.{le-leb}
use lib.Dec.{leb, lit≤}
use lib.ListN.{length, drop, set, length-set, drop_of_length-le}
use lib.Seq.{drop-cons, drop-set-lt, get_or-set_same, append_snoc}
use Rattle.integers_wide.specs.declared.Size.{Size}
use Rattle.text.specs.Decimal.{decimal}
use Rattle.integers_wide.specs.Meaning.{size_of}
use Rattle.text.proofs.Digits.{decimal-one, decimal-more}

abbrev words : ℕ → ℕ → Size
words h l = record { hi = h; lo = l }

-- two digits or more
module _ (w : Size) where
  pub tens_over : 0 < w.hi → true ≡ leb 10 (size_of w)
  unfolding size_of
  tens_over h = sym (le-leb 10 (w.hi * 2 ^ 64 + w.lo) (omega arith))

  pub tens_lower : w.hi ≤ 0 → leb 10 w.lo ≡ leb 10 (size_of w)
  unfolding size_of
  tens_lower h = let e : w.lo ≡ w.hi * 2 ^ 64 + w.lo = omega arith in ap (leb 10) e

-- long division by 10, in half words from the second on
module _ (h l : ℕ) where
  abbrev pub second : ℕ
  second = h % 10 * 4294967296 + l / 4294967296

  abbrev pub third : ℕ
  third = second % 10 * 4294967296 + l % 4294967296

  pub tenth : size_of (words (h / 10) (second / 10 * 4294967296 + third / 10)) ≡ size_of (words h l) / 10
  unfolding size_of
  tenth = omega arith

  pub last : third % 10 ≡ size_of (words h l) % 10
  unfolding size_of
  last = omega (arith, tenth)

  pub second_fits : l < 2 ^ 64 → second < 2 ^ 64
  second_fits k = let q : l / 4294967296 < 4294967296 = omega arith in omega arith

-- 39 digits are enough
below-square : (B h l : ℕ) → h < B → l < B → h * B + l < B * B
below-square B h l p q = let m : suc h * B ≤ B * B = mul-le-mul_right B p in omega arith

pub value-below : (w : Size) → w.hi < 2 ^ 64 → w.lo < 2 ^ 64 → size_of w < 10 ^ 39
unfolding size_of
value-below w p q = lt_of_lt_of_le (below-square (2 ^ 64) w.hi w.lo p q) (lit≤ tt)

-- a number below 10 is its lower word
pub value-one : (w : Size) → size_of w < 10 → w.lo ≡ size_of w
unfolding size_of
value-one w h = omega arith

-- and fits a byte, as does its character
pub digit-fits : (w : Size) → size_of w < 10 → (w.lo < 256) × (48 + w.lo < 256)
unfolding size_of
digit-fits w h = (omega arith, omega arith)

-- with a digit fewer, a place fewer
pub fewer : (i n : ℕ) → 10 ≤ n → n < 10 ^ i → (2 ≤ i) × (n / 10 < 10 ^ (i - 1))
fewer zero n h k = absurd (omega arith)
fewer (suc zero) n h k = absurd (omega arith)
fewer (suc (suc i)) n h k =
    let e : suc (suc i) - 1 ≡ suc i = omega arith in
    let p : 10 ^ suc (suc i) ≡ 10 ^ suc i * 10 = pow-suc 10 (suc i) in
    (omega arith, rw e (omega arith))

-- ---- digits at the end of a list: the one before them is put
module _ (l : List ℕ) (i d : ℕ) (some : 1 ≤ i) (there : i ≤ length l) where
  pub put_front : drop (i - 1) (set l (i - 1) d) ≡ d ∷ drop i l
  put_front =
      let e : suc (i - 1) ≡ i = omega arith in
      let at : i - 1 < length (set l (i - 1) d) = rw length-set (omega arith) in
      drop-cons (set l (i - 1) d) (i - 1) 0 at ∙ rw (get_or-set_same l (i - 1) d 0 (omega arith), e, drop-set-lt i l (i - 1) d (omega arith))

module _ (n rest : ℕ) (l : List ℕ) (i : ℕ) (some : 1 ≤ i) (there : i ≤ length l) (is : decimal n ≡ decimal rest ++ drop i l) where
  pub spelt_more : 10 ≤ rest → decimal n ≡ decimal (rest / 10) ++ drop (i - 1) (set l (i - 1) (48 + rest % 10))
  spelt_more h = is ∙ rw (decimal-more rest h, put_front l i (48 + rest % 10) some there) (append_snoc (decimal (rest / 10)) (48 + rest % 10) (drop i l))

  pub spelt : rest < 10 → drop (i - 1) (set l (i - 1) (48 + rest)) ≡ decimal n
  spelt h = put_front l i (48 + rest) some there ∙ sym (is ∙ rw (decimal-one rest h) refl)

-- at the start none is put
pub spelt_none : (n : ℕ) (l : List ℕ) (i : ℕ) → length l ≤ i → decimal n ≡ decimal n ++ drop i l
spelt_none n l i h = rw (drop_of_length-le l h, append-nil (decimal n))
