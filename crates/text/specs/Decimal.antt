-- Numbers in decimal: SPEC, "List program". Assumes nothing.
use Rattle.std.specs.Prelude.{ℕ, zero, suc, ◌+◌, ◌/◌, ◌%◌, true, false, List, [], ◌∷◌, ◌++◌, ltb, ℤ, pos, negsuc}

-- the digits of n, most significant first: one for a number below 10, else those of n / 10 and the last; no more than `most`
unfoldable pub decimal_within : ℕ → ℕ → List ℕ
decimal_within zero n = []
decimal_within (suc most) n =
    elim (ltb n 10) [ true ↦ (48 + n) ∷ [] | false ↦ decimal_within most (n / 10) ++ ((48 + n % 10) ∷ []) ]

-- all digits of n: there are no more than n + 1
unfoldable pub decimal : ℕ → List ℕ
decimal n = decimal_within (suc n) n

-- the same of a signed number, '-' before the digits of a negative one
unfoldable pub signed_decimal : ℤ → List ℕ
signed_decimal (pos n) = decimal n
signed_decimal (negsuc n) = 45 ∷ decimal (suc n)
