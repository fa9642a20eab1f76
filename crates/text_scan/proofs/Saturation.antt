-- The value of a run of digits, counted under a cap C, which is one more than any size that is asked for. Assumes nothing.
use Prim.Native.Nat.{ℕ, ◌+◌, ◌≤◌, ◌<◌, min}
use mathlib.Core.Path.{◌≡◌, refl, sym, ap, ◌∙◌}
use mathlib.Core.Bool.{Bool, true, false}
use mathlib.Core.List.{List, [], ◌∷◌, foldl}
use native.Mathlib.Nat.{le_of_lt}
use native.Mathlib.Decide.{dec_le}
use native.Mathlib.Omega.{arith}
use borrow.Author.Tests.{le-leb, lt-leb, lt-ltb, le-ltb}
use lib.ListN.{length, get_or}
use Rattle.text_scan.specs.Run.{end_of_run}
use Rattle.text_scan.specs.Number.{bad, spelling, is_digit, digits_at, with_digit, value_of, fits, fitted}
use Rattle.text_scan.proofs.Runs.{run_more, run_end-more, run_end-here}

module _ (C : ℕ) where
  -- a value with one more digit, under the cap
  abbrev pub capped : ℕ → ℕ → ℕ
  capped n b = min (with_digit n b) C

  withDigit-capped : (n b : ℕ) → min (with_digit n b) C ≡ capped (min n C) b
  withDigit-capped n b = omega arith

  foldl-capped : (ds : List ℕ) (n : ℕ) → foldl capped (min n C) ds ≡ min (foldl with_digit n ds) C
  foldl-capped [] n = refl
  foldl-capped (b ∷ ds) n = rw (← withDigit-capped n b) (foldl-capped ds (with_digit n b))

pub is_digit-below : (b : ℕ) → b < 48 → is_digit b ≡ false
is_digit-below b h = simp (lt-leb 48 b h)

pub is_digit-above : (b : ℕ) → 48 ≤ b → 57 < b → is_digit b ≡ false
is_digit-above b h k = simp (le-leb 48 b h, lt-leb b 57 k)

is_digit-within : (b : ℕ) → 48 ≤ b → b ≤ 57 → is_digit b ≡ true
is_digit-within b h k = simp (le-leb 48 b h, le-leb b 57 k)

module _ (C : ℕ) (s : List ℕ) (at n i : ℕ) where
  -- counting on from i with n ends as counting from `at` does
  abbrev pub Counted : Type 0
  Counted = (min (foldl with_digit n (digits_at s i)) C ≡ min (value_of (digits_at s at)) C) × (end_of_run is_digit s i ≡ end_of_run is_digit s at)

  pub counted_none : Counted → digits_at s i ≡ [] → (min n C ≡ min (value_of (digits_at s at)) C) × (i ≡ end_of_run is_digit s at)
  counted_none h e = (sym (ap (λ (ds : List ℕ). min (foldl with_digit n ds) C) e) ∙ h.0, run_end-here is_digit s i e ∙ h.1)

  pub counted-more : (m : ℕ) → Counted → i < length s → 48 ≤ get_or s i 0 → get_or s i 0 ≤ 57
      → min m C ≡ min (with_digit n (get_or s i 0)) C → (min (foldl with_digit m (digits_at s (i + 1))) C ≡ min (value_of (digits_at s at)) C) × (end_of_run is_digit s (i + 1) ≡ end_of_run is_digit s at)
  counted-more m h l low high grown =
      let e = is_digit-within (get_or s i 0) low high in
      let rest = digits_at s (i + 1) in (
        sym (foldl-capped C rest m) ∙ ap (λ (x : ℕ). foldl (capped C) x rest) grown ∙ foldl-capped C rest (with_digit n (get_or s i 0)) ∙ sym (ap (λ (ds : List ℕ). min (foldl with_digit n ds) C) (run_more is_digit s i l e)) ∙ h.0,
        run_end-more is_digit s i l e ∙ h.1,
      )

pub fits-small : (top : ℕ) (minus : Bool) (n : ℕ) → n < top → fits top minus n ≡ true
unfolding fits
fits-small top true n h = le-leb n top (le_of_lt h)
fits-small top false n h = lt-ltb n top h

pub fits-big : (top : ℕ) (minus : Bool) (n : ℕ) → top < n → fits top minus n ≡ false
unfolding fits
fits-big top true n h = lt-leb n top h
fits-big top false n h = le-ltb n top (le_of_lt h)

pub fitted-big : (top : ℕ) (minus : Bool) (n end : ℕ) → top < n → fitted top (spelling minus n end) ≡ bad
unfolding fitted
fitted-big top minus n end h = rw (fits-big top minus n h) refl

-- a capped value is as good as the value
pub fitted-capped : (T top : ℕ) → top ≤ T → (minus : Bool) (n m end : ℕ) → min n (T + 1) ≡ min m (T + 1) → fitted top (spelling minus n end) ≡ fitted top (spelling minus m end)
fitted-capped T top t minus n m end e = elim (dec_le m T) [
  | yes h ↦ ap (λ (x : ℕ). fitted top (spelling minus x end)) (omega arith)
  | no h ↦ fitted-big top minus n end (omega arith) ∙ sym (fitted-big top minus m end (omega arith))
]

pub both-capped : (C n m : ℕ) → C ≤ n → C ≤ m → min n C ≡ min m C
both-capped C n m h k = omega arith
