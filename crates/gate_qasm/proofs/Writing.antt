-- What the code meets that writes: a letter's line, the text of a word from a place on. Assumes nothing.
use mathlib.Core.Path.{◌≡◌, refl, sym, ap, ◌∙◌}
use mathlib.Core.List.{List, [], ◌++◌}
use Prim.Native.Nat.{ℕ, zero, suc, ◌+◌, ◌-◌, ◌*◌, ◌≤◌, ◌<◌}
use native.Mathlib.Nat.{le_of_eq}
use native.Mathlib.Omega.{arith}
use lib.ListN.{length, get_or, drop, length-append}
use lib.Seq.{paste-zero}
use Rattle.text.proofs.Writing.{Put, put-fits}
use Rattle.gate_alphabet.specs.Letters.{Letter, letter_of, letters_of, letters-end, letters-more}
use Rattle.gate_qasm.specs.Text.{line, text_of, same}

-- ---- a letter's line
abbrev pub Lines : ℕ → ℕ → Type 0
Lines b r = (8 * r ≡ length (line (letter_of b))) × (r ≤ 1)

module _ (b : ℕ) (x : Letter) (e : letter_of b ≡ x) where
  pub one_line : 8 ≡ length (line x) → Lines b 1
  one_line h = rw e (h, omega arith)

  pub no_line : 0 ≡ length (line x) → Lines b 0
  no_line h = rw e (h, omega arith)

  pub put-gate : (xs : List ℕ) (at : ℕ) {out : List ℕ} {r : ℕ} → Put xs at (line x) out r → Put xs at (line (letter_of b)) out r
  put-gate xs at p = rw e p

-- W is written by nothing
pub put-none : (xs : List ℕ) (at : ℕ) → at ≤ length xs → Put xs at [] xs at
put-none xs at h =
    let z : at + 0 ≡ at = omega arith in
    let p = put-fits xs at [] (omega arith) in
    (paste-zero xs at [] ∙ p.0, sym z ∙ p.1)

-- ---- the text of a word from a place on
module _ (w : List ℕ) where
  abbrev pub text_from : ℕ → List ℕ
  text_from i = text_of (letters_of (drop i w))

  pub text-end : (i : ℕ) → length w ≤ i → text_from i ≡ []
  unfolding text_of
  text-end i h = ap text_of (letters-end w i h)

  -- one letter further to the front
  pub text-back : (i : ℕ) → 0 < i → i ≤ length w → text_from (i - 1) ≡ text_from i ++ line (letter_of (get_or w (i - 1) 0))
  unfolding text_of
  text-back i h k =
      let e : i - 1 + 1 ≡ i = omega arith in
      ap text_of (letters-more w (i - 1) (omega arith)) ∙ ap (λ (j : ℕ). text_from j ++ line (letter_of (get_or w (i - 1) 0))) e

  pub length_back : (i : ℕ) → 0 < i → i ≤ length w → length (text_from (i - 1)) ≡ length (text_from i) + length (line (letter_of (get_or w (i - 1) 0)))
  length_back i h k = ap length (text-back i h k) ∙ length-append (text_from i) (line (letter_of (get_or w (i - 1) 0)))

  -- it is no longer than the whole
  pub text-fewer : (i : ℕ) → i ≤ length w → length (text_from i) ≤ length (text_from 0)
  text-fewer zero h = le_of_eq refl
  text-fewer (suc i) h =
      let e : suc i - 1 ≡ i = omega arith in
      let f : length (text_from (suc i - 1)) ≡ length (text_from i) = ap (λ (j : ℕ). length (text_from j)) e in
      omega (arith, length_back (suc i) (omega arith) h, text-fewer i (omega arith))
