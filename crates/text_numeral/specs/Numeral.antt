-- The number that a word spells: SPEC, "List program".
use Rattle.std.specs.Prelude.{cond, List, ℕ, ◌^◌, eqb, ℤ, pos, neg_ℤ, length, Option, Some, None}
use Rattle.std.specs.Int.Signed.{lt_z}
use Rattle.text_scan.specs.Number.{Read, value, bad, number_at}

pub data Number : Type 0 where
  some : ℤ → Number
  none : Number

abbrev pub numeral_of : Option ℤ → Number
numeral_of (Some z) = some z
numeral_of None = none

-- −2³¹ to 2³¹ − 1
abbrev pub narrowed : ℤ → Number
narrowed z = cond (lt_z z (neg_ℤ (pos (2 ^ 31)))) none (cond (lt_z (pos 2147483647) z) none (some z))

-- an optional '-' and digits, to the end of the word
abbrev pub whole : ℕ → Read → Number
whole n (value z end) = cond (eqb end n) (narrowed z) none
whole n bad = none

abbrev pub word_number : List ℕ → Number
word_number s = whole (length s) (number_at (2 ^ 63) s 0)
