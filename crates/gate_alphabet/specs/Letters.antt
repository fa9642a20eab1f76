-- A word as bytes: which bytes are letters, and the word that they spell. The bytes of the letters are `byte` of `gate_theory`. Assumes nothing.
use Rattle.std.specs.Prelude.{◌≡◌, Bool, true, false, cond, ◌&&◌, List, [], ◌∷◌, ◌↔◌, ℕ, suc, ◌+◌, ◌<◌, ◌≤◌, eqb, length, get_or, drop}
use Rattle.std.proofs.Math.Path.{refl, sym, ap}
use Rattle.std.proofs.Common.{ap₂, ◌∙◌, drop_of_length-le, drop-cons}
use Rattle.std.proofs.Math.Numerals.{add-one}
use borrow.Author.Tests.{eqb-true, ne_eqb}
use Rattle.integers.specs.lemmas.Booleans.{both_true}
pub use Rattle.gate_theory.specs.Table.{Letter, H, S, T, W}
pub use Rattle.gate_theory.specs.Bytes.{byte, bytes, length-bytes}

-- the letter that a byte is; a byte that is none is taken for W
unfoldable pub letter_of : ℕ → Letter
letter_of b = cond (eqb b (byte H)) H (cond (eqb b (byte S)) S (cond (eqb b (byte T)) T W))

unfoldable pub is_letter : ℕ → Bool
is_letter b = eqb b (byte (letter_of b))

unfoldable pub letters_of : List ℕ → List Letter
letters_of [] = []
letters_of (b ∷ s) = letter_of b ∷ letters_of s

unfoldable pub are_letters : List ℕ → Bool
are_letters [] = true
are_letters (b ∷ s) = is_letter b && are_letters s

-- ---- bytes of letters are a word, and a word is the bytes of its letters
letter-byte : (x : Letter) → letter_of (byte x) ≡ x
unfolding letter_of
letter-byte H = refl
letter-byte S = refl
letter-byte T = refl
letter-byte W = refl

is_byte : (x : Letter) → is_letter (byte x) ≡ true
unfolding is_letter letter_of
is_byte H = refl
is_byte S = refl
is_byte T = refl
is_byte W = refl

pub letters-bytes : (w : List Letter) → letters_of (bytes w) ≡ w
unfolding letters_of
letters-bytes [] = refl
letters-bytes (x ∷ w) = ap₂ ◌∷◌ (letter-byte x) (letters-bytes w)

pub are_bytes : (w : List Letter) → are_letters (bytes w) ≡ true
unfolding are_letters
are_bytes [] = refl
are_bytes (x ∷ w) = rw (is_byte x) (are_bytes w)

pub bytes-letters : (s : List ℕ) → are_letters s ≡ true → bytes (letters_of s) ≡ s
unfolding are_letters is_letter letters_of
bytes-letters [] e = refl
bytes-letters (b ∷ s) e = let (f, g) = both_true (is_letter b) (are_letters s) e in ap₂ ◌∷◌ (sym (eqb-true b (byte (letter_of b)) f)) (bytes-letters s g)

pub length-letters : (s : List ℕ) → length (letters_of s) ≡ length s
unfolding letters_of
length-letters [] = refl
length-letters (b ∷ s) = ap suc (length-letters s)

-- so bytes are letters exactly when they are the bytes of a word
pub record IsWord (s : List ℕ) : Type 0 where
  pub word : List Letter
  pub is : s ≡ bytes word

pub letters-iff : (s : List ℕ) → (are_letters s ≡ true) ↔ IsWord s
letters-iff s = ((λ e. record { word = letters_of s; is = sym (bytes-letters s e) }), (λ w. ap are_letters w.is ∙ are_bytes w.word))

-- ---- a byte, as code finds it
module _ (b : ℕ) where
  pub letter-H : b ≡ byte H → letter_of b ≡ H
  letter-H e = ap letter_of e ∙ letter-byte H

  pub letter-S : b ≡ byte S → letter_of b ≡ S
  letter-S e = ap letter_of e ∙ letter-byte S

  pub letter-T : b ≡ byte T → letter_of b ≡ T
  letter-T e = ap letter_of e ∙ letter-byte T

  pub letter-W : (b ≡ byte H → ⊥) → (b ≡ byte S → ⊥) → (b ≡ byte T → ⊥) → letter_of b ≡ W
  unfolding letter_of
  letter-W f g h = rw (ne_eqb b 72 f, ne_eqb b 83 g, ne_eqb b 84 h) refl

  pub is_one : (x : Letter) → b ≡ byte x → true ≡ is_letter b
  is_one x e = sym (ap is_letter e ∙ is_byte x)

  pub is_none : (b ≡ byte H → ⊥) → (b ≡ byte S → ⊥) → (b ≡ byte T → ⊥) → (b ≡ byte W → ⊥) → false ≡ is_letter b
  unfolding is_letter
  is_none f g h i = sym (rw (letter-W f g h) (ne_eqb b 87 i))

-- ---- from a place on
module _ (s : List ℕ) (i : ℕ) where
  pub letters-end : length s ≤ i → letters_of (drop i s) ≡ []
  unfolding letters_of
  letters-end h = ap letters_of (drop_of_length-le s h)

  pub letters-more : i < length s → letters_of (drop i s) ≡ letter_of (get_or s i 0) ∷ letters_of (drop (i + 1) s)
  unfolding letters_of
  letters-more h = ap letters_of (drop-cons s i 0 h) ∙ simp add-one

  pub are_end : length s ≤ i → are_letters (drop i s) ≡ true
  unfolding are_letters
  are_end h = ap are_letters (drop_of_length-le s h)

  pub are_not : i < length s → is_letter (get_or s i 0) ≡ false → are_letters (drop i s) ≡ false
  unfolding are_letters
  are_not h k = ap are_letters (drop-cons s i 0 h) ∙ simp k

  pub are_more : i < length s → is_letter (get_or s i 0) ≡ true → are_letters (drop i s) ≡ are_letters (drop (i + 1) s)
  unfolding are_letters
  are_more h k = ap are_letters (drop-cons s i 0 h) ∙ simp (k, add-one)
