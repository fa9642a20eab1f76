-- A file is read back: the word without its W. And the word that `pattern` prints is the word that `qasm` reads. Assumes nothing.
use Rattle.std.specs.Prelude.{◌≡◌, refl, Bool, ℕ, zero, suc, ◌+◌, ◌-◌, ◌≤◌, ◌<◌, length}
use Rattle.std.proofs.Common.{sym, ◌∙◌, arith, length-append, get_or-append-add, drop_at, drop-drop, le-ltb, eqb-true}
use Rattle.std.proofs.Math.Path.{ap}
use Rattle.std.proofs.Math.Bool.{true, false}
use mathlib.Core.List.{List, [], ◌∷◌, ◌++◌, append-nil}
use Rattle.std.proofs.Math.ListN.{get_or, drop}
use Rattle.std.proofs.lemmas.List.{get_or_at}
use Rattle.integers.specs.lemmas.Booleans.{both_true}
use Rattle.text_puts.specs.Texts.{shown}
use Rattle.text_puts.specs.Puts.{joined}
use Rattle.gate_alphabet.specs.Letters.{Letter, H, S, T, W, byte, bytes, letter_of, is_letter, letters_of, are_letters, length-letters}
use Rattle.gate_qasm.specs.Text.{text_of, struck, same}
use Rattle.gate_qasm.specs.Laws.{text-is, word-text}
use Rattle.gate_qasm.specs.lemmas.Lines.{same_true, true_same}
use Rattle.qasm_file.specs.File.{header, line_start, word_start, past_dash, place_of, begins_file, letter_texts, back_of}
use Rattle.qasm_file.specs.lemmas.Laws.{text-short, line-here, line_before, word-there, dash_there, dash_not}

-- the file of any word of at most 65,536 letters: what `unqasm` prints for it
pub file_back : (p : ℕ) (w : List ℕ) → are_letters w ≡ true → length w ≤ 65536 → back_of (joined (letter_texts p w)) ≡ shown (bytes (struck (letters_of w))) ++ (10 ∷ [])
unfolding begins_file
file_back p w e h =
    let t = text_of (letters_of w) in
    let a = text-short (letters_of w) in
    let b = length-letters w in
    rw (e, append-nil t, le-ltb 524335 (length (header ++ t)) (rw length-append (omega arith)), true_same header header refl, text-is (letters_of w), word-text (letters_of w)) refl

-- ---- the last line
module _ (p q : List ℕ) (none : (i : ℕ) → i < length q → get_or q i 0 ≡ 10 → ⊥) where
  abbrev both : List ℕ
  both = p ++ 10 ∷ q

  last_line : (k : ℕ) → k ≤ length q → line_start both (suc (length p + k)) ≡ suc (length p)
  last_line zero h =
      let e : length p + 0 ≡ length p = omega arith in
      rw e (line-here both (suc (length p)) (omega arith) (get_or_at p 10 q 0 (suc (length p) - 1) (omega arith)))
  last_line (suc k) h =
      let i = suc (length p + suc k) in
      let e : i - 1 ≡ suc (length p + k) = omega arith in
      let g : length p + suc k ≡ i - 1 = omega arith in
      line_before both i (omega arith) (λ f. none k (omega arith) (sym (get_or-append-add p (10 ∷ q) (suc k) 0) ∙ ap (λ (j : ℕ). get_or both j 0) g ∙ f))
      ∙ ap (line_start both) e ∙ last_line k (omega arith)

-- no letter is a line feed, and none is a dash
letter-byte : (b n : ℕ) → is_letter b ≡ true → n < 72 → b ≡ n → ⊥
unfolding is_letter
letter-byte b n e h f = go (letter_of b) (eqb-true b (byte (letter_of b)) e)
  where
    go : (x : Letter) → b ≡ byte x → ⊥
    go H g = omega arith
    go S g = omega arith
    go T g = omega arith
    go W g = omega arith

letters-no : (w : List ℕ) (n : ℕ) → are_letters w ≡ true → n < 72 → (i : ℕ) → i < length w → get_or w i 0 ≡ n → ⊥
unfolding are_letters
letters-no [] n e h i k f = omega arith
letters-no (b ∷ w) n e h zero k f = letter-byte b n (both_true (is_letter b) (are_letters w) e).0 h f
letters-no (b ∷ w) n e h (suc i) k f = letters-no w n (both_true (is_letter b) (are_letters w) e).1 h i (omega arith) f

abbrev mark : List ℕ
mark = 119 ∷ 111 ∷ 114 ∷ 100 ∷ 32 ∷ []

shown-no : (w : List ℕ) → are_letters w ≡ true → (i : ℕ) → i < length (shown w) → get_or (shown w) i 0 ≡ 10 → ⊥
unfolding shown
shown-no [] e zero k f = omega arith
shown-no [] e (suc i) k f = omega arith
shown-no (b ∷ w) e i k f = letters-no (b ∷ w) 10 e (omega arith) i k f

mark-no : (w : List ℕ) → are_letters w ≡ true → (i : ℕ) → i < length (mark ++ shown w) → get_or (mark ++ shown w) i 0 ≡ 10 → ⊥
mark-no w e zero k f = omega arith
mark-no w e (suc zero) k f = omega arith
mark-no w e (suc (suc zero)) k f = omega arith
mark-no w e (suc (suc (suc zero))) k f = omega arith
mark-no w e (suc (suc (suc (suc zero)))) k f = omega arith
mark-no w e (suc (suc (suc (suc (suc i))))) k f = shown-no w e i (omega arith) f

module _ (p w : List ℕ) (e : are_letters w ≡ true) where
  abbrev input : List ℕ
  input = p ++ 10 ∷ (mark ++ shown w)

  start : line_start input (length input) ≡ suc (length p)
  start =
      let n : length input ≡ suc (length p + length (mark ++ shown w)) = length-append p (10 ∷ (mark ++ shown w)) ∙ omega arith in
      ap (line_start input) n ∙ last_line p (mark ++ shown w) (mark-no w e) (length (mark ++ shown w)) (omega arith)

  line : drop (suc (length p)) input ≡ mark ++ shown w
  line =
      let n : suc (length p) ≡ length p + 1 = omega arith in
      ap (λ (k : ℕ). drop k input) n ∙ sym (drop-drop 1 (length p) input) ∙ ap (drop 1) (drop_at p (10 ∷ (mark ++ shown w)) (length p) refl)

  word : drop (suc (length p) + 5) input ≡ shown w
  word = sym (drop-drop 5 (suc (length p)) input) ∙ ap (drop 5) line

  there : word_start input (suc (length p)) ≡ suc (length p) + 5
  there = sym (word-there input (suc (length p)) (rw line (true_same mark mark refl)))

  dashed : (v : List ℕ) → v ≡ w → drop (past_dash input (suc (length p) + 5)) input ≡ v
  unfolding shown
  dashed [] f =
      let s : drop (suc (length p) + 5) input ≡ 45 ∷ [] = word ∙ ap shown (sym f) in
      let d = dash_there input (suc (length p) + 5) (rw s (true_same (45 ∷ []) (45 ∷ []) refl)) in
      rw (← d) (sym (drop-drop 1 (suc (length p) + 5) input) ∙ ap (drop 1) s)
  dashed (b ∷ v) f =
      let s : drop (suc (length p) + 5) input ≡ b ∷ v = word ∙ ap shown (sym f) in
      let d = dash_not input (suc (length p) + 5) (rw s (not-dash (same (b ∷ v) (45 ∷ [])) refl)) in
      rw (← d) s
    where
      not-dash : (c : Bool) → same (b ∷ v) (45 ∷ []) ≡ c → same (b ∷ v) (45 ∷ []) ≡ false
      not-dash true g = absurd (letters-no (b ∷ v) 45 (rw f e) (omega arith) 0 (omega arith) (ap (λ (l : List ℕ). get_or l 0 0) (same_true (b ∷ v) (45 ∷ []) g)))
      not-dash false g = g

  -- the word that `pattern` prints in its last line is the word that `qasm` reads
  pub word_line : drop (place_of input) input ≡ w
  unfolding place_of
  word_line = rw (start, there) (dashed w refl)
