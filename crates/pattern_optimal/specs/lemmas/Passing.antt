-- S, X and W before a body: it has a body of as many syllables, for they pass through each syllable and only turn HT into SHT and back. The rules are words of known letters, which compute.
use Rattle.std.specs.Prelude.{Bool, true, false, List, [], ◌∷◌, ◌++◌}
use Rattle.gate_theory.specs.Table.{Letter, H, S, W}

-- ---- the generators of what passes T
pub data Passer : Type 0 where
  isS isX isW : Passer

-- X = HSSH
abbrev pub letters : Passer → List Letter
letters isS = S ∷ []
letters isX = H ∷ S ∷ S ∷ H ∷ []
letters isW = W ∷ []

abbrev pub letters_of : List Passer → List Letter → List Letter
letters_of [] w = w
letters_of (x ∷ g) w = letters x ++ letters_of g w

-- before the syllable b: the syllable after it, and what is left behind that
abbrev pub turned_by : Passer → Bool → Bool
turned_by isS true = false
turned_by isS false = true
turned_by isX b = b
turned_by isW b = b

abbrev pub left : Passer → Bool → List Passer
left isS true = []
left isS false = isW ∷ isS ∷ isS ∷ isS ∷ isX ∷ []
left isX true = isS ∷ isS ∷ []
left isX false = isW ∷ isW ∷ isW ∷ isS ∷ isS ∷ isS ∷ isX ∷ isS ∷ isS ∷ []
left isW b = isW ∷ []
