-- A word in a file of OpenQASM 2.0, and such a file's word: SPEC, "OpenQASM programs".
use Rattle.std.specs.Prelude.{Bool, cond, List, [], ◌∷◌, ℕ, zero, suc, ◌+◌, ◌-◌, eqb, ltb, length, get_or, take, drop}
use Rattle.refusals.specs.Refusals.{not_aLetter, not_aLine}
use Rattle.list_lines.specs.Lines.{too_long_line}
use Rattle.text_puts.specs.Texts.{refusal_texts, shown}
use Rattle.text_puts.specs.Puts.{joined}
use Rattle.gate_alphabet.specs.Letters.{bytes, letters_of, are_letters}
use Rattle.gate_qasm.specs.Text.{text_of, is_text, word_of, same}

-- `OPENQASM 2.0;`, `include "qelib1.inc";` and `qreg q[1];`, a line each
abbrev pub header : List ℕ
header = 79 ∷ 80 ∷ 69 ∷ 78 ∷ 81 ∷ 65 ∷ 83 ∷ 77 ∷ 32 ∷ 50 ∷ 46 ∷ 48 ∷ 59 ∷ 10 ∷ 105 ∷ 110 ∷ 99 ∷ 108 ∷ 117 ∷ 100 ∷ 101 ∷ 32 ∷ 34 ∷ 113 ∷ 101 ∷ 108 ∷ 105 ∷ 98 ∷ 49 ∷ 46 ∷ 105 ∷ 110 ∷ 99 ∷ 34 ∷ 59 ∷ 10 ∷ 113 ∷ 114 ∷ 101 ∷ 103 ∷ 32 ∷ 113 ∷ 91 ∷ 49 ∷ 93 ∷ 59 ∷ 10 ∷ []

-- ---- where the word stands in an input
-- without a line feed behind it
unfoldable pub end_of : List ℕ → ℕ
end_of s = cond (eqb (get_or s (length s - 1) 0) 10) (length s - 1) (length s)

-- where the line begins that goes up to a place: behind the last line feed before it
unfoldable pub line_start : List ℕ → ℕ → ℕ
line_start s zero = 0
line_start s (suc i) = cond (eqb (get_or s i 0) 10) (suc i) (line_start s i)

-- the last line is `word` and the word; else all that there is is the word
unfoldable pub word_start : List ℕ → ℕ → ℕ
word_start s at = cond (same (take 5 (drop at s)) (119 ∷ 111 ∷ 114 ∷ 100 ∷ 32 ∷ [])) (at + 5) 0

-- `-` is the empty word
unfoldable pub past_dash : List ℕ → ℕ → ℕ
past_dash s at = cond (same (drop at s) (45 ∷ [])) (at + 1) at

unfoldable pub place_of : List ℕ → ℕ
place_of s = past_dash s (word_start s (line_start s (length s)))

-- ---- what `qasm` prints: at most 65,536 bytes are read
abbrev pub letter_texts : ℕ → List ℕ → List (List ℕ)
letter_texts p w = cond (are_letters w) (header ∷ text_of (letters_of w) ∷ []) (refusal_texts not_aLetter p)

abbrev pub word_texts : List ℕ → List (List ℕ)
word_texts s = letter_texts (place_of s) (drop (place_of s) s)

abbrev pub file_texts : List ℕ → List (List ℕ)
file_texts s = cond (ltb 65536 (length s)) (too_long_line ∷ []) (word_texts (take (end_of s) s))

abbrev pub file_of : List ℕ → List ℕ
file_of s = joined (file_texts s)

-- ---- what `unqasm` prints: the header has 47 bytes, and a file of 65,536 lines 524,335
-- it begins with the header
unfoldable pub begins_file : List ℕ → Bool
begins_file s = same (take 47 s) header

abbrev pub line_texts : List ℕ → List (List ℕ)
line_texts t = cond (is_text t) (shown (bytes (word_of t)) ∷ (10 ∷ []) ∷ []) (refusal_texts not_aLine 47)

abbrev pub back_texts : List ℕ → List (List ℕ)
back_texts s = cond (ltb 524335 (length s)) (too_long_line ∷ []) (cond (begins_file s) (line_texts (drop 47 s)) (refusal_texts not_aLine 0))

abbrev pub back_of : List ℕ → List ℕ
back_of s = joined (back_texts s)
