-- Bytes put at a place of a list: where they fit, where they do not, and one more byte before them. Assumes nothing.
use Prim.Native.Nat.{ℕ, ◌+◌, ◌≤◌, ◌<◌}
use mathlib.Core.Path.{◌≡◌, sym, ap, ◌∙◌}
use mathlib.Core.List.{List, ◌∷◌, ◌++◌, append_assoc}
use native.Mathlib.Numerals.{add-one}
use native.Mathlib.Decide.{dec_le}
use native.Mathlib.Omega.{arith}
use borrow.Author.Tests.{le-leb, lt-leb}
use lib.ListN.{length, get_or, take, drop, set}
use lib.Seq.{take-suc, append_snoc, set_at, length-take-le}
use Rattle.text.specs.Written.{written, after}

-- the contract of a writer that finds xs, puts ys at `at`, leaves out and answers r
abbrev pub Put : List ℕ → ℕ → List ℕ → List ℕ → ℕ → Type 0
Put xs at ys out r = (out ≡ written xs at ys) × (r ≡ after xs at ys)

module _ (xs : List ℕ) (at : ℕ) (ys : List ℕ) where
  pub put-fits : at + length ys ≤ length xs → Put xs at ys (take at xs ++ ys ++ drop (at + length ys) xs) (at + length ys)
  unfolding written after
  put-fits h = (simp (le-leb _ _ h), simp (le-leb _ _ h))

  pub put-not : length xs < at + length ys → Put xs at ys xs at
  unfolding written after
  put-not h = (simp (lt-leb _ _ h), simp (lt-leb _ _ h))

-- ys stands after a place, and b is put at the place
set_before : (xs : List ℕ) (at b : ℕ) (ys : List ℕ) → at + 1 + length ys ≤ length xs
    → set (take (at + 1) xs ++ ys ++ drop (at + 1 + length ys) xs) at b ≡ take at xs ++ (b ∷ ys) ++ drop (at + length (b ∷ ys)) xs
set_before xs at b ys h =
    let rest = drop (at + 1 + length ys) xs in
    let x = get_or xs at 0 in
    let same : at + 1 + length ys ≡ at + length (b ∷ ys) = omega arith in
    ap (λ (l : List ℕ). set (l ++ ys ++ rest) at b) (ap (λ (k : ℕ). take k xs) (add-one at) ∙ take-suc xs at 0 (omega arith))
    ∙ ap (λ (l : List ℕ). set l at b) (ap (λ (l : List ℕ). l ++ rest) (append_snoc (take at xs) x ys) ∙ append_assoc (take at xs) (x ∷ ys) rest)
    ∙ set_at (take at xs) x (ys ++ rest) b at (length-take-le at xs (omega arith))
    ∙ sym (append_assoc (take at xs) (b ∷ ys) rest)
    ∙ ap (λ (k : ℕ). take at xs ++ (b ∷ ys) ++ drop k xs) same

module _ (xs : List ℕ) (at b : ℕ) (ys : List ℕ) {out : List ℕ} {r : ℕ} (put : Put xs (at + 1) ys out r) where
  pub put-before : (r ≡ at + 1 → ⊥) → Put xs at (b ∷ ys) (set out at b) r
  put-before moved = elim (dec_le (at + 1 + length ys) (length xs)) [
    | yes h ↦
        let f = put-fits xs (at + 1) ys h in
        let g = put-fits xs at (b ∷ ys) (omega arith) in (
          ap (λ (l : List ℕ). set l at b) (put.0 ∙ sym f.0) ∙ set_before xs at b ys h ∙ g.0,
          put.1 ∙ sym f.1 ∙ omega arith ∙ g.1,
        )
    | no h ↦ absurd (moved (put.1 ∙ sym (put-not xs (at + 1) ys (omega arith)).1))
  ]

  pub put-neither : 0 < length ys → r ≡ at + 1 → Put xs at (b ∷ ys) out at
  put-neither some stayed = elim (dec_le (at + 1 + length ys) (length xs)) [
    | yes h ↦ let f = put-fits xs (at + 1) ys h in absurd (omega arith)
    | no h ↦
        let f = put-not xs (at + 1) ys (omega arith) in
        let g = put-not xs at (b ∷ ys) (omega arith) in
        (put.0 ∙ sym f.0 ∙ g.0, g.1)
  ]
