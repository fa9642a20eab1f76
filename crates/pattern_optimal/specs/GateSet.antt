-- S†, T†, X, Y and Z as letters of their own: each is a word in H, S, T and W of the same matrix, phase included, with as many T. So a word in these gates has a word in H, S, T and W of the same product with as many T.
use Rattle.std.specs.Prelude.{◌≡◌, List, [], ◌∷◌, ◌++◌, ℕ, suc, ◌+◌, pos, negsuc}
use Rattle.ring.specs.Point.{◌*ω◌, negω, numω, ω}
use Rattle.gate_theory.specs.Table.{Letter, H, S, T, W}
use Rattle.gate_theory.specs.Matrix.{Matrix, ◌·◌, scale, one, matrix, √2^, counted as countedH}
use Rattle.gate_theory.specs.Word.{counted as countedT}

pub data Gate : Type 0 where
  letter : Letter → Gate
  S† T† X Y Z : Gate

-- their matrices; H is √2 times the matrix that it stands for. ω² = i and ω⁴ = −1, so ω⁻² = −ω² and ω⁻¹ = −ω³
abbrev pub gate_matrix : Gate → Matrix
gate_matrix (letter x) = matrix x
gate_matrix S† = record { a = numω (pos 1); b = numω (pos 0); c = numω (pos 0); d = negω (ω *ω ω) }
gate_matrix T† = record { a = numω (pos 1); b = numω (pos 0); c = numω (pos 0); d = negω (ω *ω (ω *ω ω)) }
gate_matrix X = record { a = numω (pos 0); b = numω (pos 1); c = numω (pos 1); d = numω (pos 0) }
gate_matrix Y = record { a = numω (pos 0); b = negω (ω *ω ω); c = ω *ω ω; d = numω (pos 0) }
gate_matrix Z = record { a = numω (pos 1); b = numω (pos 0); c = numω (pos 0); d = numω (negsuc 0) }

abbrev pub gate_product : List Gate → Matrix
gate_product [] = one
gate_product (x ∷ g) = gate_matrix x · gate_product g

-- how many H, and how many T: T† is one, as T is
abbrev pub gate_hs : List Gate → ℕ
gate_hs [] = 0
gate_hs (letter x ∷ g) = countedH x (gate_hs g)
gate_hs (S† ∷ g) = gate_hs g
gate_hs (T† ∷ g) = gate_hs g
gate_hs (X ∷ g) = gate_hs g
gate_hs (Y ∷ g) = gate_hs g
gate_hs (Z ∷ g) = gate_hs g

abbrev pub gate_ts : List Gate → ℕ
gate_ts [] = 0
gate_ts (letter x ∷ g) = countedT x (gate_ts g)
gate_ts (S† ∷ g) = gate_ts g
gate_ts (T† ∷ g) = suc (gate_ts g)
gate_ts (X ∷ g) = gate_ts g
gate_ts (Y ∷ g) = gate_ts g
gate_ts (Z ∷ g) = gate_ts g

-- the product of the gates, each H over √2, is m over √2^k
pub record GateSpells (g : List Gate) (k : ℕ) (m : Matrix) : Type 0 where
  pub exactly : scale (√2^ k) (gate_product g) ≡ scale (√2^ (gate_hs g)) m

-- ---- each gate as a word
abbrev pub letters : Gate → List Letter
letters (letter x) = x ∷ []
letters S† = S ∷ S ∷ S ∷ []
letters T† = T ∷ S ∷ S ∷ S ∷ []
letters X = H ∷ S ∷ S ∷ H ∷ []
letters Y = W ∷ W ∷ H ∷ S ∷ S ∷ H ∷ S ∷ S ∷ []
letters Z = S ∷ S ∷ []

abbrev pub letters_of : List Gate → List Letter
letters_of [] = []
letters_of (x ∷ g) = letters x ++ letters_of g

-- the H in the words of gates that are none
abbrev pub more : Gate → ℕ
more (letter x) = 0
more S† = 0
more T† = 0
more X = 2
more Y = 2
more Z = 0

abbrev pub mores : List Gate → ℕ
mores [] = 0
mores (x ∷ g) = more x + mores g
