-- What two words mean: hi·2^64 + lo, for signed numbers in two's complement and for sizes.
use Rattle.std.specs.Prelude.{ℕ, ◌+◌, ◌*◌, ◌/◌, ◌%◌, ◌^◌, ◌<◌, Bool, true, false, ℤ, pos, ◌+ℤ◌, ◌*ℤ◌, neg_ℤ, unsigned_abs}
use Rattle.integers_wide.specs.declared.Wide.{Wide}
use Rattle.integers_wide.specs.declared.Size.{Size}

abbrev pub word : ℕ
word = 2 ^ 64

-- a whole number below 2^128
unfoldable pub size_of : Size → ℕ
size_of s = s.hi * word + s.lo

-- the two words of n, of which what passes 2^128 is dropped
unfoldable pub wrapped : ℕ → Size
wrapped n = record { hi = n / word % word; lo = n % word }

-- from −2^127 up to 2^127 − 1
unfoldable pub meaning : Wide → ℤ
meaning w = w.hi *ℤ pos word +ℤ pos w.lo

-- within ±2^126: the sum of two such numbers has two words
abbrev pub Half : Wide → Type 0
Half w = unsigned_abs (meaning w) < 2 ^ 126

abbrev pub turned_if : Bool → ℤ → ℤ
turned_if true z = neg_ℤ z
turned_if false z = z
