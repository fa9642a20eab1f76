-- S, X and W before a body: it has a body of as many syllables, for they pass through each syllable and only turn HT into SHT and back. The rules are words of known letters, which compute.
use Rattle.std.specs.Prelude.{◌≡◌, refl, Bool, true, false, List, [], ◌∷◌, ◌++◌, ℕ, zero, suc}
use Rattle.std.proofs.Common.{◌∙◌, ap, arith}
use Rattle.gate_theory.specs.Table.{Letter, H, S, T, W, tail}
use Rattle.gate_theory.specs.Matrix.{of_state}
use Rattle.gate_theory.specs.Word.{syllable, Ts, tail-Ts}
use Rattle.gate_theory.specs.Normal.{Body, tails, syllabic}
use Rattle.gate_theory.proofs.lemmas.Base.{tail-spells}
use Rattle.gate_theory.proofs.Tailed.{clifford, tail-is}
use Rattle.gate_theory.proofs.lemmas.Only.{same_of}
use Rattle.pattern_optimal.proofs.lemmas.Equal.{Equal, itself, then, before, beyond, of_same, rule}
use Rattle.pattern_optimal.specs.lemmas.Passing.{Passer, isS, isX, isW, letters, letters_of, turned_by, left}

passes : (x : Passer) (b : Bool) (w : List Letter) → Equal (letters x ++ (syllable b ++ w)) (syllable (turned_by x b) ++ letters_of (left x b) w)
passes isS true w = itself (S ∷ H ∷ T ∷ w)
passes isS false w = beyond w (rule (S ∷ S ∷ H ∷ T ∷ []) (H ∷ T ∷ letters_of (left isS false) []) refl refl refl)
passes isX true w = beyond w (rule (H ∷ S ∷ S ∷ H ∷ H ∷ T ∷ []) (H ∷ T ∷ S ∷ S ∷ []) refl refl refl)
passes isX false w = beyond w (rule (H ∷ S ∷ S ∷ H ∷ S ∷ H ∷ T ∷ []) (S ∷ H ∷ T ∷ letters_of (left isX false) []) refl refl refl)
passes isW true w = beyond w (rule (W ∷ H ∷ T ∷ []) (H ∷ T ∷ W ∷ []) refl refl refl)
passes isW false w = beyond w (rule (W ∷ S ∷ H ∷ T ∷ []) (S ∷ H ∷ T ∷ W ∷ []) refl refl refl)

-- ---- a body of n syllables
pub record Bodied (n : ℕ) (w : List Letter) : Type 0 where
  pub word : List Letter
  pub body : Body word
  pub Ts-are : Ts word ≡ n
  pub equal : Equal w word

pub bodied_by : {n : ℕ} {v w : List Letter} → Equal v w → Bodied n w → Bodied n v
bodied_by e b = record { word = b.word; body = b.body; Ts-are = b.Ts-are; equal = then e b.equal }

pub syllable-Ts : (b : Bool) (w : List Letter) → Ts (syllable b ++ w) ≡ suc (Ts w)
syllable-Ts true w = refl
syllable-Ts false w = refl

pub syllable-bodied : (b : Bool) {n : ℕ} {w : List Letter} → Bodied n w → Bodied (suc n) (syllable b ++ w)
syllable-bodied b h = record { word = syllable b ++ h.word; body = syllabic b h.body; Ts-are = syllable-Ts b h.word ∙ ap suc h.Ts-are; equal = before (syllable b) h.equal }

-- a word without T
pub free-bodied : (w : List Letter) → Ts w ≡ 0 → Bodied 0 w
free-bodied w e =
    let c = clifford w e in
    let s = c.state in
    record { word = tail s; body = tails (tail-is s c.ready); Ts-are = tail-Ts s; equal = of_same w (tail s) (same_of w (tail s) s.k (of_state s) c.spells (tail-spells s c.ready)) }

letters-free : (x : Passer) (w : List Letter) → Ts (letters x ++ w) ≡ Ts w
letters-free isS w = refl
letters-free isX w = refl
letters-free isW w = refl

-- ---- through all the syllables
module _ (n : ℕ) (one : (x : Passer) (w : List Letter) → Body w → Ts w ≡ n → Bodied n (letters x ++ w)) where
  all_pass : (g : List Passer) (w : List Letter) → Body w → Ts w ≡ n → Bodied n (letters_of g w)
  all_pass [] w h e = record { word = w; body = h; Ts-are = e; equal = itself w }
  all_pass (x ∷ g) w h e = let b = all_pass g w h e in bodied_by (before (letters x) b.equal) (one x b.word b.body b.Ts-are)

one_passes : (n : ℕ) (x : Passer) (w : List Letter) → Body w → Ts w ≡ n → Bodied n (letters x ++ w)
one_passes zero x w (tails t) e = free-bodied (letters x ++ w) (letters-free x w ∙ t.free)
one_passes (suc n) x w (tails t) e = absurd (omega (arith, t.free))
one_passes zero x w (syllabic b {w = v} h) e = absurd (omega (arith, syllable-Ts b v))
one_passes (suc n) x w (syllabic b {w = v} h) e =
    bodied_by (passes x b v) (syllable-bodied (turned_by x b) (all_pass n (λ y z k f. one_passes n y z k f) (left x b) v h (omega (arith, syllable-Ts b v))))

pub pass : (g : List Passer) (w : List Letter) → Body w → Bodied (Ts w) (letters_of g w)
pass g w h = all_pass (Ts w) (one_passes (Ts w)) g w h refl
