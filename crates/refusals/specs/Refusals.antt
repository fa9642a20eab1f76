-- SPEC, "Refusals": the number of every refusal, in the order of the numbers.
use Rattle.std.specs.Prelude.{ℕ}

-- there is no byte
abbrev pub no_kind : ℕ
no_kind = 1

-- the kind is none of those that are read here
abbrev pub unknown_kind : ℕ
unknown_kind = 2

-- the body is cut short: fewer bytes follow the kind than it has
abbrev pub short : ℕ
short = 3

-- a field, a bound or a number is out of its range
abbrev pub beyond_range : ℕ
beyond_range = 4

-- an ellipse has P·R − Q² below 1
abbrev pub not_positive : ℕ
not_positive = 5

-- a parity sum of an operator is odd
abbrev pub odd_parity : ℕ
odd_parity = 6

-- an operator with even parity sums is not special
abbrev pub not_special : ℕ
not_special = 7

-- a known kind stands out of its turn
abbrev pub out_of_turn : ℕ
out_of_turn = 8

-- scale, A and B are not all there; of trays: none is taken
abbrev pub no_job : ℕ
no_job = 9

-- the end was reported, and no rewind or clearing came since
abbrev pub after_end : ℕ
after_end = 10

-- a slice has zx = zy = 0
abbrev pub no_direction : ℕ
no_direction = 11

-- u and t do not solve the equation of "Other entry"
abbrev pub not_unitary : ℕ
not_unitary = 12

-- a word or a text is longer than its slice
abbrev pub no_room : ℕ
no_room = 13

-- there is no pattern up to the job's scale
abbrev pub no_pattern : ℕ
no_pattern = 14

-- a byte of a word is not one of the four letters
abbrev pub not_aLetter : ℕ
not_aLetter = 15

-- no byte of A, a ninth A, or bytes behind B
abbrev pub form : ℕ
form = 16

-- a line of a text is not one of the three, or is not closed
abbrev pub not_aLine : ℕ
not_aLine = 17

-- no word, a last word that is not closed, or a ninth
abbrev pub not_aTray : ℕ
not_aTray = 18

-- the reader is neither 1 nor 2
abbrev pub no_reader : ℕ
no_reader = 19
