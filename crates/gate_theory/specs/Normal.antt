-- Matsumoto and Amano's normal form: an optional T, then HT and SHT in any order and number, then a tail in H, S and W,
-- which is the shortest of equal product, and of those as short the first in the alphabet.
use Rattle.std.specs.Prelude.{◌≡◌, ◌⊎◌, Bool, List, [], ◌∷◌, ◌++◌, length}
use Prim.Native.Nat.{ℕ, ◌<◌}
use Rattle.gate_theory.specs.Table.{Letter, H, S, T, W}
use Rattle.gate_theory.specs.Word.{syllable, Ts}
use Rattle.gate_theory.specs.Matrix.{product, scale, Hs, √2^}

-- one product, each H over √2
pub record Same (v w : List Letter) : Type 0 where
  pub is : scale (√2^ (Hs w)) (product v) ≡ scale (√2^ (Hs v)) (product w)

-- the alphabet: H, S, T, W
abbrev pub rank : Letter → ℕ
rank H = 1
rank S = 2
rank T = 3
rank W = 4

-- v is not after w, of words as long
pub data Alphabetical : List Letter → List Letter → Type 0 where
  ends : Alphabetical [] []
  first : {x y : Letter} {v w : List Letter} → rank x < rank y → Alphabetical (x ∷ v) (y ∷ w)
  later : {x : Letter} {v w : List Letter} → Alphabetical v w → Alphabetical (x ∷ v) (x ∷ w)

-- shorter, or as long and not after
abbrev pub Leads : List Letter → List Letter → Type 0
Leads w v = (length w < length v) ⊎ ((length w ≡ length v) × Alphabetical w v)

pub record Tail (w : List Letter) : Type 0 where
  pub free : Ts w ≡ 0
  pub least : (v : List Letter) → Ts v ≡ 0 → Same v w → Leads w v

pub data Body : List Letter → Type 0 where
  tails : {w : List Letter} → Tail w → Body w
  syllabic : (b : Bool) {w : List Letter} → Body w → Body (syllable b ++ w)

pub data Normal : List Letter → Type 0 where
  plainly : {w : List Letter} → Body w → Normal w
  with-T : {w : List Letter} → Body w → Normal (T ∷ w)
