-- Keeping the points with one region's bit gives that region's walk alone, whatever the other regions are: SPEC, "Trays".
use Rattle.std.specs.Prelude.{Bool, cond, List, [], ◌∷◌, ℕ, ℤ, nat_abs}
use Rattle.tray_list.specs.Bits.{bit}

-- those of a list that pass
abbrev pub kept : (ℕ → Bool) → List ℕ → List ℕ
kept f [] = []
kept f (r ∷ l) = cond (f r) (r ∷ kept f l) (kept f l)

-- ---- the same of the numbers that are handed out
-- numbers read as points of five: the first four of each whose fifth has bit j
abbrev pub four_of : ℕ → List ℤ → List ℤ
four_of j [] = []
four_of j (a ∷ []) = []
four_of j (a ∷ b ∷ []) = []
four_of j (a ∷ b ∷ c ∷ []) = []
four_of j (a ∷ b ∷ c ∷ d ∷ []) = []
four_of j (a ∷ b ∷ c ∷ d ∷ m ∷ l) = cond (bit (nat_abs m) j) (a ∷ b ∷ c ∷ d ∷ four_of j l) (four_of j l)
