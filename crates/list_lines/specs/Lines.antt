-- The lines that the list program prints: SPEC, "List program".
use Rattle.std.specs.Prelude.{List, [], ◌∷◌, ◌++◌, ℕ, ℤ}
use Rattle.ring.specs.declared.Point.{Point}
use Rattle.ring.specs.Point.Exponent.{exponent_of, pulse_count}
use Rattle.text.specs.Decimal.{decimal, signed_decimal}

-- a coordinate and a space; a count and the mark after it
unfoldable pub coordinate_text : ℤ → List ℕ
coordinate_text z = signed_decimal z ++ (32 ∷ [])

unfoldable pub count_text : ℕ → ℕ → List ℕ
count_text n mark = decimal n ++ (mark ∷ [])

-- how the line of a solution begins, `a b c `
unfoldable pub head_text : Point → List ℕ
head_text v = coordinate_text v.a ++ coordinate_text v.b ++ coordinate_text v.c

-- the line `a b c d e m` of a solution
unfoldable pub point_line : ℕ → Point → List ℕ
point_line k v =
    coordinate_text v.a ++ coordinate_text v.b ++ coordinate_text v.c ++ coordinate_text v.d ++ count_text (exponent_of k v) 32 ++ count_text (pulse_count (exponent_of k v)) 10

-- the lines of points in four numbers each
unfoldable pub lines_of : ℕ → List ℤ → List ℕ
lines_of k [] = []
lines_of k (a ∷ []) = []
lines_of k (a ∷ b ∷ []) = []
lines_of k (a ∷ b ∷ c ∷ []) = []
lines_of k (a ∷ b ∷ c ∷ d ∷ l) = point_line k (record { a = a; b = b; c = c; d = d }) ++ lines_of k l

-- the line `end N` of their number
unfoldable pub end_line : ℕ → List ℕ
end_line n = (101 ∷ 110 ∷ 100 ∷ 32 ∷ []) ++ count_text n 10

-- the line `refused R at P`
unfoldable pub refusal_line : ℕ → ℕ → List ℕ
refusal_line r p = (114 ∷ 101 ∷ 102 ∷ 117 ∷ 115 ∷ 101 ∷ 100 ∷ 32 ∷ []) ++ decimal r ++ (32 ∷ 97 ∷ 116 ∷ 32 ∷ []) ++ count_text p 10

-- the line `too long`
abbrev pub too_long_line : List ℕ
too_long_line = 116 ∷ 111 ∷ 111 ∷ 32 ∷ 108 ∷ 111 ∷ 110 ∷ 103 ∷ 10 ∷ []
