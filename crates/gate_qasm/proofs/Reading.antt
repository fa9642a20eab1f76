-- What the code meets that reads: the lines of a text, and its word. Assumes nothing.
use mathlib.Core.Path.{◌≡◌, refl, sym, ap, ◌∙◌}
use mathlib.Core.Bool.{Bool, true, false, ◌&&◌}
use mathlib.Core.List.{List}
use Prim.Native.Nat.{ℕ, zero, suc, ◌+◌, ◌-◌, ◌*◌, ◌/◌, ◌%◌, ◌≤◌, ◌<◌}
use native.Mathlib.Nat.{le_of_eq}
use native.Mathlib.Numerals.{add-one}
use native.Mathlib.Omega.{arith}
use lib.ListN.{length, get_or, set}
use lib.Seq.{take_all, paste, paste-zero, paste-suc}
use borrow.Author.Tests.{eq-eqb, ne_eqb}
use Rattle.integers.specs.lemmas.Booleans.{iff}
use Rattle.text.specs.Written.{written}
use Rattle.text.proofs.Writing.{put-fits, put-not}
use Rattle.gate_alphabet.specs.Letters.{H, S, T, byte, bytes, length-bytes}
use Rattle.gate_qasm.specs.Text.{line, same, is_line, line_at, are_lines, is_text, gate_of, word_within, word_of}
use Rattle.gate_qasm.specs.lemmas.Lines.{same_true, true_same}

-- ---- the lines of a text
module _ (l v : List ℕ) (r : Bool) (c : (r ≡ true → l ≡ v) × (l ≡ v → r ≡ true)) where
  pub tested : r ≡ same l v
  tested = iff r (same l v) (λ e. true_same l v (c.0 e)) (λ e. c.1 (same_true l v e))

module _ (l : List ℕ) where
  pub line_first : same l (line H) ≡ true → true ≡ is_line l
  unfolding is_line
  line_first e = rw e refl

  pub line_second : same l (line H) ≡ false → same l (line S) ≡ true → true ≡ is_line l
  unfolding is_line
  line_second e f = rw (e, f) refl

  pub line-third : same l (line H) ≡ false → same l (line S) ≡ false → same l (line T) ≡ is_line l
  unfolding is_line
  line-third e f = rw (e, f) refl

module _ (s : List ℕ) (i : ℕ) (h : 0 < i) where
  next : are_lines i s ≡ is_line (line_at (i - 1) s) && are_lines (i - 1) s
  unfolding are_lines
  next = go i h
    where
      go : (i : ℕ) → 0 < i → are_lines i s ≡ is_line (line_at (i - 1) s) && are_lines (i - 1) s
      go zero h = absurd (omega arith)
      go (suc i) h = let e : i ≡ suc i - 1 = omega arith in ap (λ (j : ℕ). is_line (line_at j s) && are_lines j s) e

  pub lines_not : is_line (line_at (i - 1) s) ≡ false → are_lines i s ≡ false
  lines_not e = next ∙ rw e refl

  pub lines_less : is_line (line_at (i - 1) s) ≡ true → are_lines i s ≡ are_lines (i - 1) s
  lines_less e = next ∙ rw e refl

pub lines_none : (s : List ℕ) (i : ℕ) → i ≡ 0 → are_lines i s ≡ true
unfolding are_lines
lines_none s i e = rw e refl

module _ (s : List ℕ) where
  pub text-whole : length s % 8 ≡ 0 → are_lines (length s / 8) s ≡ is_text s
  unfolding is_text
  text-whole e = rw (eq-eqb (length s % 8) 0 e) refl

  pub text-cut : (length s % 8 ≡ 0 → ⊥) → false ≡ is_text s
  unfolding is_text
  text-cut f = rw (ne_eqb (length s % 8) 0 f) refl

-- ---- the word of a text
module _ (b : ℕ) where
  pub gate_h : b ≡ 104 → 72 ≡ byte (gate_of b)
  unfolding gate_of
  gate_h e = rw e refl

  pub gate_s : b ≡ 115 → 83 ≡ byte (gate_of b)
  unfolding gate_of
  gate_s e = rw e refl

  pub gate_t : (b ≡ 104 → ⊥) → (b ≡ 115 → ⊥) → 84 ≡ byte (gate_of b)
  unfolding gate_of
  gate_t f g = rw (ne_eqb b 104 f, ne_eqb b 115 g) refl

length-within : (n : ℕ) (s : List ℕ) → length (word_within n s) ≡ n
unfolding word_within
length-within zero s = refl
length-within (suc n) s = ap suc (length-within n s)

pub length-word : (s : List ℕ) → length (bytes (word_of s)) ≡ length s / 8
unfolding word_of
length-word s = length-bytes (word_within (length s / 8) s) ∙ length-within (length s / 8) s

letter-within : (n : ℕ) (s : List ℕ) (i : ℕ) → i < n → get_or (bytes (word_within n s)) i 0 ≡ byte (gate_of (get_or s (8 * (n - 1 - i)) 0))
unfolding word_within
letter-within zero s i h = absurd (omega arith)
letter-within (suc n) s zero h = let e : n ≡ suc n - 1 - 0 = omega arith in ap (λ (j : ℕ). byte (gate_of (get_or s (8 * j) 0))) e
letter-within (suc n) s (suc i) h =
    let e : n - 1 - i ≡ suc n - 1 - suc i = omega arith in
    letter-within n s i (omega arith) ∙ ap (λ (j : ℕ). byte (gate_of (get_or s (8 * j) 0))) e

module _ (s out : List ℕ) where
  abbrev word : List ℕ
  word = bytes (word_of s)

  pub letter-more : (i x : ℕ) (l : List ℕ) → i < length s / 8 → i < length out → l ≡ paste out 0 word i → x ≡ byte (gate_of (get_or s (8 * (length s / 8 - 1 - i)) 0)) → set l i x ≡ paste out 0 word (i + 1)
  unfolding word_of
  letter-more i x l h room p a =
      let n = length-word s in
      let z : i ≡ 0 + i = omega arith in
      rw (a, p, ← letter-within (length s / 8) s i h, add-one)
      (ap (λ (k : ℕ). set (paste out 0 word i) k (get_or word i 0)) z ∙ paste-suc out 0 word i 0 (omega arith) (omega arith))

  -- all letters are there, where they fit
  pub word-all : length s / 8 ≤ length out → (i : ℕ) (l : List ℕ) → i ≡ length s / 8 → l ≡ paste out 0 word i → l ≡ written out 0 word
  word-all room i l e p =
      let n = length-word s in
      let m : i ≡ length word = omega arith in
      p ∙ rw (m, take_all (length word) word (le_of_eq refl)) (put-fits out 0 word (omega arith)).0

  -- none is there, where they do not
  pub word_none : length out < length s / 8 → (i : ℕ) (l : List ℕ) → i ≡ 0 → l ≡ paste out 0 word i → l ≡ written out 0 word
  word_none full i l e p =
      let n = length-word s in
      p ∙ ap (paste out 0 word) e ∙ sym (paste-zero out 0 word) ∙ (put-not out 0 word (omega arith)).0
