-- Sums of powers of 2: bit j of the sum over the j that pass is whether j passes; and the sum is 0 just where none does.
-- Assumes nothing.
use Rattle.std.specs.Prelude.{Bool, ℕ, ◌^◌, ◌/◌, ◌%◌, eqb}

-- bit j of a number
abbrev pub bit : ℕ → ℕ → Bool
bit m j = eqb (m / 2 ^ j % 2) 1
