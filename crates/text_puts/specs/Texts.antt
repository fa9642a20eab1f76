-- Texts that several programs print. Assumes nothing.
use Rattle.std.specs.Prelude.{◌≡◌, refl, List, [], ◌∷◌, ℕ, ◌≤◌, length}
use Rattle.std.proofs.Common.{arith}
use Rattle.text.specs.Decimal.{decimal}

-- a name and a number
abbrev pub number_texts : List ℕ → ℕ → List (List ℕ)
number_texts name n = name ∷ (32 ∷ []) ∷ decimal n ∷ (10 ∷ []) ∷ []

-- `refused R at P`
abbrev pub refusal_texts : ℕ → ℕ → List (List ℕ)
refusal_texts r p = (114 ∷ 101 ∷ 102 ∷ 117 ∷ 115 ∷ 101 ∷ 100 ∷ 32 ∷ []) ∷ decimal r ∷ number_texts (32 ∷ 97 ∷ 116 ∷ []) p

-- a word, or `-` for the empty one
unfoldable pub shown : List ℕ → List ℕ
shown [] = 45 ∷ []
shown (b ∷ w) = b ∷ w

pub shown-none : (w : List ℕ) → length w ≡ 0 → shown w ≡ 45 ∷ []
unfolding shown
shown-none [] e = refl
shown-none (b ∷ w) e = absurd (omega arith)

pub shown-some : (w : List ℕ) → (length w ≡ 0 → ⊥) → shown w ≡ w
unfolding shown
shown-some [] f = absurd (f refl)
shown-some (b ∷ w) f = refl

pub shown-size : (w : List ℕ) (n : ℕ) → 1 ≤ n → length w ≤ n → length (shown w) ≤ n
unfolding shown
shown-size [] n some h = some
shown-size (b ∷ w) n some h = h
