-- A decimal number at a place of the bytes, of one word or of two. It serves the lines of SPEC, "Console".
-- Assumes nothing.
use Rattle.std.specs.Prelude.{ℕ, ◌+◌, ◌-◌, ◌*◌, Bool, true, false, cond, leb, ltb, eqb, ℤ, pos, length, get_or, drop}
use mathlib.Core.List.{List, foldl}
use Rattle.integers_wide.specs.Meaning.{meaning, size_of, turned_if}
use Rattle.text_scan.specs.Run.{run}
use Rattle.text_scan.specs.declared.Number.{Number}
use Rattle.text_scan.specs.declared.Number.TheVariants as one
use Rattle.text_scan.specs.declared.WideNumber.{WideNumber}
use Rattle.text_scan.specs.declared.WideNumber.TheVariants as two
use Rattle.text_scan.specs.declared.Spelled.{Spelled}
use Rattle.text_scan.specs.declared.Spelled.TheVariants as some

-- a value and the place after it, or no number that fits
pub data Read : Type 0 where
  value : ℤ → ℕ → Read
  bad : Read

abbrev pub read_of : Number → Read
read_of (one.Value z end) = value z end
read_of one.Bad = bad

abbrev pub wide_read_of : WideNumber → Read
wide_read_of (two.Value w end) = value (meaning w) end
wide_read_of two.Bad = bad

-- a minus or not, the size that the digits spell and the place after them; or no digit
pub data Spelling : Type 0 where
  spelling : Bool → ℕ → ℕ → Spelling
  nothing : Spelling

abbrev pub spelled_of : Spelled → Spelling
spelled_of (some.Digits minus n end) = spelling minus (size_of n) end
spelled_of some.Nothing = nothing

-- '0' to '9'
abbrev pub is_digit : ℕ → Bool
is_digit b = cond (leb 48 b) (leb b 57) false

-- the longest run of digits from a place on
abbrev pub digits_at : List ℕ → ℕ → List ℕ
digits_at s at = run is_digit (drop at s)

-- a number with one more digit at its right
abbrev pub with_digit : ℕ → ℕ → ℕ
with_digit n b = n * 10 + (b - 48)

-- the number that a list of digits spells, of any size
abbrev pub value_of : List ℕ → ℕ
value_of = foldl with_digit 0

-- from −top up to top − 1: −2^63 fits a signed 64-bit number, and 2^63 does not
unfoldable pub fits : ℕ → Bool → ℕ → Bool
fits top minus n = cond minus (leb n top) (ltb n top)

unfoldable pub fitted : ℕ → Spelling → Read
fitted top (spelling minus n end) = cond (fits top minus n) (value (turned_if minus (pos n)) end) bad
fitted top nothing = bad

-- the number whose digits begin at a place, with a minus before them or not; at least one digit
unfoldable pub number_from : ℕ → Bool → List ℕ → ℕ → Read
number_from top minus s at =
    cond (eqb (length (digits_at s at)) 0) bad (fitted top (spelling minus (value_of (digits_at s at)) (at + length (digits_at s at))))

-- an optional '-', then the digits
unfoldable pub number_at : ℕ → List ℕ → ℕ → Read
number_at top s at = cond (eqb (get_or s at 0) 45) (number_from top true s (at + 1)) (number_from top false s at)
