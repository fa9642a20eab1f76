-- The bytes that words of a line spell. They serve the lines of SPEC, "Console". Assumes nothing.
use Rattle.std.specs.Prelude.{ℕ, ◌-◌, cond, List, [], ◌∷◌, ltb, length, take, drop, Option, Some, None}
use Rattle.text_hex.specs.Hex.{hex_of, hex_written}
use Rattle.text_scan.specs.Run.{spaces_from, word_end}
use Rattle.text_words.specs.Names.{is_name}

-- the word at a place that has no space, and the place of the next
abbrev pub word_from : List ℕ → ℕ → List ℕ
word_from line at = take (word_end line at - at) (drop at line)

abbrev pub next_from : List ℕ → ℕ → ℕ
next_from line at = spaces_from line (word_end line at)

-- a word that is the line's last; at the line's end no bytes
unfoldable pub last_of : List ℕ → ℕ → ℕ → Option ℕ
last_of line at room = cond (ltb at (length line)) (cond (ltb (next_from line at) (length line)) None (hex_of (word_from line at) room)) (Some 0)

unfoldable pub last_written : List ℕ → ℕ → List ℕ → List ℕ
last_written line at out = cond (ltb at (length line)) (cond (ltb (next_from line at) (length line)) out (hex_written (word_from line at) out)) out

-- a word of digits, or a dash for no bytes
unfoldable pub dash_of : List ℕ → ℕ → Option ℕ
dash_of word room = cond (is_name word (45 ∷ [])) (Some 0) (hex_of word room)

unfoldable pub dash_written : List ℕ → List ℕ → List ℕ
dash_written word out = cond (is_name word (45 ∷ [])) out (hex_written word out)

-- such a word at a place; at the line's end there is none
unfoldable pub bytes_of : List ℕ → ℕ → ℕ → Option ℕ
bytes_of line at room = cond (ltb at (length line)) (dash_of (word_from line at) room) None

unfoldable pub bytes_written : List ℕ → ℕ → List ℕ → List ℕ
bytes_written line at out = cond (ltb at (length line)) (dash_written (word_from line at) out) out
