-- A word in an array, as far as it is written.
use Rattle.std.specs.Prelude.{◌≡◌, refl, List, [], ◌∷◌, ◌++◌, ℕ, zero, suc, ◌+◌, ◌-◌, ◌/◌, ◌%◌, ◌≤◌, ◌<◌, length, take}
use Rattle.std.proofs.Common.{sym, ◌∙◌, ap, append_assoc, arith, length-append}
use Rattle.gate_clifford.specs.declared.letters.Word.{Word}
use Rattle.gate_theory.specs.declared.State.{State}
use Rattle.gate_theory.specs.Table.{Letter, letter, unpack, tail}
pub use Rattle.gate_theory.specs.Bytes.{byte, bytes, bytes-++, length-bytes}
use Rattle.gate_theory.specs.Word.{body}
use Rattle.gate_theory.proofs.lemmas.Length.{body-length}

abbrev pub written : Word → List ℕ
written w = take w.len w.letters

unpack-++ : (n c : ℕ) (w : List Letter) → unpack n c w ≡ unpack n c [] ++ w
unpack-++ zero c w = refl
unpack-++ (suc n) zero w = refl
unpack-++ (suc n) (suc c) w =
    unpack-++ n (suc c / 4) (letter (suc c % 4) ∷ w) ∙ sym (append_assoc (unpack n (suc c / 4) []) (letter (suc c % 4) ∷ []) w) ∙ ap (λ t. t ++ w) (sym (unpack-++ n (suc c / 4) (letter (suc c % 4) ∷ [])))

-- the letters v behind those of w
pub record Adds (w : Word) (v : List Letter) (r : Word) : Type 0 where
  pub letters : written r ≡ written w ++ bytes v
  pub len : r.len ≡ w.len + length v

-- an array that holds the word w
pub record Writes (r : Word) (w : List Letter) : Type 0 where
  pub letters : written r ≡ bytes w
  pub len : r.len ≡ length w
  pub room : r.len ≤ 128

-- ---- the code's steps
pub unpack-none : (n c : ℕ) → n ≡ 0 → bytes (unpack n c []) ≡ []
unpack-none zero c e = refl
unpack-none (suc n) c e = absurd (omega arith)

pub unpack-zero : (n c : ℕ) → c ≡ 0 → bytes (unpack n c []) ≡ []
unpack-zero zero c e = refl
unpack-zero (suc n) zero e = refl
unpack-zero (suc n) (suc c) e = absurd (omega arith)

pub unpack-more : (n c : ℕ) → 0 < n → 0 < c → bytes (unpack n c []) ≡ bytes (unpack (n - 1) (c / 4) []) ++ (byte (letter (c % 4)) ∷ [])
unpack-more zero c h l = absurd (omega arith)
unpack-more (suc n) zero h l = absurd (omega arith)
unpack-more (suc n) (suc c) h l = let e : n ≡ suc n - 1 = omega arith in
    ap bytes (unpack-++ n (suc c / 4) (letter (suc c % 4) ∷ [])) ∙ bytes-++ (unpack n (suc c / 4) []) (letter (suc c % 4) ∷ []) ∙ ap (λ j. bytes (unpack j (suc c / 4) []) ++ (byte (letter (suc c % 4)) ∷ [])) e

pub none-length : (w : List Letter) → bytes w ≡ [] → length w ≡ 0
none-length w e = sym (length-bytes w) ∙ ap length e

pub more-length : (n c : ℕ) → 0 < n → 0 < c → length (unpack n c []) ≡ length (unpack (n - 1) (c / 4) []) + 1
more-length n c h l =
    let v = unpack (n - 1) (c / 4) [] in
    sym (length-bytes (unpack n c [])) ∙ ap length (unpack-more n c h l) ∙ length-append (bytes v) (byte (letter (c % 4)) ∷ []) ∙ ap (λ m. m + 1) (length-bytes v)

pub append-nil : (v : List ℕ) → v ≡ v ++ []
append-nil [] = refl
append-nil (x ∷ v) = ap (λ t. x ∷ t) (append-nil v)

pub other_letter : (d : ℕ) → (d ≡ 1 → ⊥) → (d ≡ 2 → ⊥) → byte (letter d) ≡ 87
other_letter zero g h = refl
other_letter (suc zero) g h = absurd (g refl)
other_letter (suc (suc zero)) g h = absurd (h refl)
other_letter (suc (suc (suc d))) g h = refl

pub tail-short : (s : State) → length (tail s) ≤ 10
unfolding body
tail-short s = body-length 0 s
