-- Document 02, Ticket 12: what the two calls answer, and what the lent slice then holds.
use Rattle.std.specs.Prelude.{◌≡◌, cond, List, ℕ, leb, length, Result, Ok, Err}
use Rattle.refusals.specs.Refusals.{not_aLetter, not_aLine, no_room}
use Rattle.text.specs.Written.{written}
use Rattle.gate_alphabet.specs.Letters.{bytes, letters_of, are_letters}
use Rattle.gate_qasm.specs.declared.Refusal.{Refusal}
use Rattle.gate_qasm.specs.declared.Refusal.TheVariants.{NotALetter, NotALine, NoRoom}
use Rattle.gate_qasm.specs.Text.{text_of, is_text, word_of}

-- "15 when writing, 17 when reading a line that isn't one of the three or isn't closed; then 13 if and only if the text or word doesn't fit its slice"
abbrev pub number_of : Refusal → ℕ
number_of NotALetter = not_aLetter
number_of NotALine = not_aLine
number_of NoRoom = no_room

-- bytes that go into a slice of a length
abbrev pub fitted : List ℕ → ℕ → Result ℕ Refusal
fitted bs n = cond (leb (length bs) n) (Ok (length bs)) (Err NoRoom)

-- the bytes of a word, and a slice; `written` leaves the slice as it was where they do not fit, and the bytes past them as they were
unfoldable pub write_of : List ℕ → ℕ → Result ℕ Refusal
write_of w n = cond (are_letters w) (fitted (text_of (letters_of w)) n) (Err NotALetter)

unfoldable pub text_after : List ℕ → List ℕ → List ℕ
text_after w s = cond (are_letters w) (written s 0 (text_of (letters_of w))) s

pub record Writes (w s s' : List ℕ) (r : Result ℕ Refusal) : Type 0 where
  pub answers : r ≡ write_of w (length s)
  pub slice : s' ≡ text_after w s

-- a text, and a slice
unfoldable pub read_of : List ℕ → ℕ → Result ℕ Refusal
read_of t n = cond (is_text t) (fitted (bytes (word_of t)) n) (Err NotALine)

unfoldable pub word_after : List ℕ → List ℕ → List ℕ
word_after t s = cond (is_text t) (written s 0 (bytes (word_of t))) s

pub record Reads (t s s' : List ℕ) (r : Result ℕ Refusal) : Type 0 where
  pub answers : r ≡ read_of t (length s)
  pub slice : s' ≡ word_after t s
