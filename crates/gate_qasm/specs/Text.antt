-- Document 02, Ticket 12: the text of a word in OpenQASM 2.0, and the word of a text. Assumes nothing.
use Rattle.std.specs.Prelude.{Bool, true, false, cond, ◌&&◌, ◌||◌, List, [], ◌∷◌, ◌++◌, ℕ, zero, suc, ◌*◌, ◌/◌, ◌%◌, eqb, length, get_or, take, drop}
use Rattle.gate_alphabet.specs.Letters.{Letter, H, S, T, W}

-- "`h q[0];`, `s q[0];` and `t q[0];`, one a line, each closed by a line feed"; "W has no gate there and is left out"
abbrev pub line : Letter → List ℕ
line H = 104 ∷ 32 ∷ 113 ∷ 91 ∷ 48 ∷ 93 ∷ 59 ∷ 10 ∷ []
line S = 115 ∷ 32 ∷ 113 ∷ 91 ∷ 48 ∷ 93 ∷ 59 ∷ 10 ∷ []
line T = 116 ∷ 32 ∷ 113 ∷ 91 ∷ 48 ∷ 93 ∷ 59 ∷ 10 ∷ []
line W = []

-- "the word goes out from its last letter to its first"
unfoldable pub text_of : List Letter → List ℕ
text_of [] = []
text_of (x ∷ w) = text_of w ++ line x

-- a word after its W letters are struck
abbrev pub kept : Letter → List Letter → List Letter
kept H w = H ∷ w
kept S w = S ∷ w
kept T w = T ∷ w
kept W w = w

unfoldable pub struck : List Letter → List Letter
struck [] = []
struck (x ∷ w) = kept x (struck w)

-- ---- "read such lines back": a text is lines of eight bytes each
unfoldable pub same : List ℕ → List ℕ → Bool
same [] [] = true
same [] (b ∷ v) = false
same (a ∷ w) [] = false
same (a ∷ w) (b ∷ v) = eqb a b && same w v

unfoldable pub is_line : List ℕ → Bool
is_line l = same l (line H) || (same l (line S) || same l (line T))

-- the n-th line, from 0 on
abbrev pub line_at : ℕ → List ℕ → List ℕ
line_at n s = take 8 (drop (8 * n) s)

-- the first n lines are such lines
unfoldable pub are_lines : ℕ → List ℕ → Bool
are_lines zero s = true
are_lines (suc n) s = is_line (line_at n s) && are_lines n s

unfoldable pub is_text : List ℕ → Bool
is_text s = cond (eqb (length s % 8) 0) (are_lines (length s / 8) s) false

-- the letter of a line, by its first byte
unfoldable pub gate_of : ℕ → Letter
gate_of b = cond (eqb b 104) H (cond (eqb b 115) S T)

-- the word of the first n lines: the letter of the last line comes first
unfoldable pub word_within : ℕ → List ℕ → List Letter
word_within zero s = []
word_within (suc n) s = gate_of (get_or s (8 * n) 0) ∷ word_within n s

unfoldable pub word_of : List ℕ → List Letter
word_of s = word_within (length s / 8) s
