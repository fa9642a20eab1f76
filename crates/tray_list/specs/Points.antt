-- A tray's points in a list of numbers, five for each, and a tray of one region.
use Rattle.std.specs.Prelude.{List, [], ◌∷◌, ◌++◌, ℕ, ℤ, pos}
use Rattle.ring.specs.declared.Point.{Point}
use Rattle.walk_list.specs.Walk.{numbers_in}

-- numbers read as points, the fifth of each left out
abbrev pub fives_of : List ℤ → List Point
fives_of [] = []
fives_of (a ∷ []) = []
fives_of (a ∷ b ∷ []) = []
fives_of (a ∷ b ∷ c ∷ []) = []
fives_of (a ∷ b ∷ c ∷ d ∷ []) = []
fives_of (a ∷ b ∷ c ∷ d ∷ m ∷ l) = record { a = a; b = b; c = c; d = d } ∷ fives_of l

-- ---- a tray of one region: that job's list, with 1 behind each point
abbrev pub one_of : ℕ → List ℤ
one_of r = numbers_in r ++ (pos 1 ∷ [])
