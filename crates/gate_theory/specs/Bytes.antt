-- The letters as bytes: SPEC, "Gate words". One home for gate words, OpenQASM lines and rig time. Assumes nothing.
use Rattle.std.specs.Prelude.{◌≡◌, refl, List, [], ◌∷◌, ◌++◌, ℕ, suc, length}
use Rattle.std.proofs.Common.{ap}
use Rattle.gate_theory.specs.Table.{Letter, H, S, T, W}

abbrev pub byte : Letter → ℕ
byte H = 72
byte S = 83
byte T = 84
byte W = 87

abbrev pub bytes : List Letter → List ℕ
bytes [] = []
bytes (x ∷ w) = byte x ∷ bytes w

pub bytes-++ : (v w : List Letter) → bytes (v ++ w) ≡ bytes v ++ bytes w
bytes-++ [] w = refl
bytes-++ (x ∷ v) w = ap (λ t. byte x ∷ t) (bytes-++ v w)

pub length-bytes : (w : List Letter) → length (bytes w) ≡ length w
length-bytes [] = refl
length-bytes (x ∷ w) = ap suc (length-bytes w)
