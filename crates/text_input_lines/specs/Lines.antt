-- The lines of a text, and what is said of each: SPEC, "Console".
use Rattle.std.specs.Prelude.{Bool, true, false, cond, List, [], ◌∷◌, ◌++◌, map, ℕ, ◌<◌, eqb, ltb, length}

-- the bytes behind the last line feed are a line where there are any
abbrev pub final_line : List ℕ → List (List ℕ)
final_line [] = []
final_line (b ∷ w) = (b ∷ w) ∷ []

-- the lines of a text that stands behind the bytes w of a line: each ends before a line feed, and the last one with the text
unfoldable pub lines_with : List ℕ → List ℕ → List (List ℕ)
lines_with w [] = final_line w
lines_with w (b ∷ text) = cond (eqb b 10) (w ∷ lines_with [] text) (lines_with (w ++ b ∷ []) text)

abbrev pub lines_of : List ℕ → List (List ℕ)
lines_of text = lines_with [] text

-- what is said of a line: itself, or that it has more than `room` bytes
pub data Event : Type 0 where
  line : List ℕ → Event
  long : Event

abbrev pub said_of : ℕ → List ℕ → Event
said_of room l = cond (ltb room (length l)) long (line l)

abbrev pub events_of : ℕ → List ℕ → List Event
events_of room text = map (said_of room) (lines_of text)
