-- Bytes written as pairs of hexadecimal digits. They serve the lines of SPEC, "Console". Assumes nothing.
use Rattle.std.specs.Prelude.{ℕ, ◌+◌, ◌-◌, ◌*◌, ◌/◌, ◌%◌, Bool, true, false, cond, List, [], ◌∷◌, leb, ltb, eqb, length, Option, Some, None}
use Rattle.text.specs.Written.{written}

abbrev between : ℕ → ℕ → ℕ → Bool
between lo hi b = cond (leb lo b) (leb b hi) false

-- '0' to '9', 'A' to 'F' and 'a' to 'f'; 16 for any other byte
unfoldable pub digit_of : ℕ → ℕ
digit_of b = cond (between 48 57 b) (b - 48) (cond (between 65 70 b) (b - 55) (cond (between 97 102 b) (b - 87) 16))

unfoldable pub all_hex : List ℕ → Bool
all_hex [] = true
all_hex (b ∷ bs) = cond (ltb (digit_of b) 16) (all_hex bs) false

-- the bytes that pairs of digits spell, the upper half of a byte first
unfoldable pub pairs : List ℕ → List ℕ
pairs [] = []
pairs (a ∷ []) = []
pairs (a ∷ b ∷ bs) = (digit_of a * 16 + digit_of b) ∷ pairs bs

-- digits and nothing else, an even number of them
unfoldable pub is_hex : List ℕ → Bool
is_hex word = cond (eqb (length word % 2) 0) (all_hex word) false

-- how many bytes a word spells, where there is room for them
unfoldable pub hex_of : List ℕ → ℕ → Option ℕ
hex_of word room = cond (is_hex word) (cond (leb (length word / 2) room) (Some (length word / 2)) None) None

-- a slice with those bytes at its start, or as it was
unfoldable pub hex_written : List ℕ → List ℕ → List ℕ
hex_written word out = cond (is_hex word) (written out 0 (pairs word)) out
