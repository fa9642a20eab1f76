-- What the code meets: with room for all, a word is refused for its letters alone, and lines for themselves; and the places of an input. Assumes nothing.
use Rattle.std.specs.Prelude.{◌≡◌, Bool, cond, leb, get_or, take, drop, Result, Ok, Err}
use Rattle.std.proofs.Math.Path.{refl, ap}
use Rattle.std.proofs.Common.{sym, subst, ◌∙◌, take_all, length-append, length-drop}
use Rattle.std.proofs.Math.Bool.{true, false}
use mathlib.Core.List.{List, [], ◌∷◌}
use Prim.Native.Nat.{ℕ, zero, suc, ◌+◌, ◌-◌, ◌*◌, ◌≤◌, ◌<◌}
use Rattle.std.proofs.Math.Nat.{min-le_right}
use native.Mathlib.Omega.{arith}
use Rattle.std.proofs.Math.ListN.{length, length-take}
use borrow.Author.Tests.{le-leb, leb-true, ne_eqb}
use Rattle.refusals.specs.Refusals.{not_aLetter, not_aLine}
use Rattle.gate_alphabet.specs.Letters.{Letter, H, S, T, W, bytes, letters_of, are_letters, length-letters}
use Rattle.gate_qasm.specs.declared.Refusal.{Refusal}
use Rattle.gate_qasm.specs.declared.Refusal.TheVariants.{NotALetter, NotALine, NoRoom}
use Rattle.gate_qasm.specs.Text.{line, text_of, is_text, word_of, same}
use Rattle.gate_qasm.specs.Calls.{number_of, fitted, write_of, Writes, read_of, Reads}
use Rattle.gate_qasm.specs.lemmas.Back.{write_gives, read-gives}
use Rattle.gate_qasm.specs.lemmas.Lines.{same_true}
use Rattle.gate_qasm.proofs.Reading.{length-word}
use Rattle.qasm_file.specs.File.{header, begins_file, end_of, line_start, word_start, past_dash}

pub take-most : (n k : ℕ) (l : List ℕ) → length l ≤ k → length (take n l) ≤ k
take-most n k l h = let e = length-take n l in let m = min-le_right n (length l) in omega arith

-- a part that goes to the end
pub take_rest : (s : List ℕ) (at : ℕ) → take (length s - at) (drop at s) ≡ drop at s
take_rest s at = take_all (length s - at) (drop at s) (let d = length-drop at s in omega arith)

line-short : (x : Letter) → length (line x) ≤ 8
line-short H = omega arith
line-short S = omega arith
line-short T = omega arith
line-short W = omega arith

pub text-short : (w : List Letter) → length (text_of w) ≤ 8 * length w
unfolding text_of
text-short [] = omega arith
text-short (x ∷ w) = let a = length-append (text_of w) (line x) in let h = text-short w in let k = line-short x in omega arith

wrote : {P : Type 0} {f : Refusal} {n : ℕ} → ◌≡◌ {A = Result ℕ Refusal} (Err f) (Ok n) → P
wrote e = absurd (let y : ◌≡◌ {A = ℕ} 0 1 = cc in omega arith)

same-refusal : {f g : Refusal} → ◌≡◌ {A = Result ℕ Refusal} (Err f) (Err g) → f ≡ g
same-refusal e = cc

-- what was written, and that it had room
got : (b m : Bool) (k n : ℕ) (f g : Refusal) → Ok n ≡ cond b (cond m (Ok k) (Err g)) (Err f) → (m ≡ true) × (n ≡ k)
got true true k n f g e = (refl, cc)
got true false k n f g e = wrote (sym e)
got false m k n f g e = wrote (sym e)

pub write_wrote : (w s s' : List ℕ) (r : Result ℕ Refusal) (n : ℕ) → Writes w s s' r → r ≡ Ok n → (are_letters w ≡ true) × (take n s' ≡ text_of (letters_of w)) × (n ≤ length s)
unfolding write_of
write_wrote w s s' r n c e =
    let d : Writes w s s' (Ok n) = subst (λ (a : Result ℕ Refusal). Writes w s s' a) e c in
    let t = text_of (letters_of w) in
    let p = got (are_letters w) (leb (length t) (length s)) (length t) n NotALetter NoRoom d.answers in
    let h = leb-true (length t) (length s) p.0 in
    ((write_gives d).0, (write_gives d).1, omega arith)

pub read-wrote : (t s s' : List ℕ) (r : Result ℕ Refusal) (n : ℕ) → Reads t s s' r → r ≡ Ok n → (is_text t ≡ true) × (take n s' ≡ bytes (word_of t)) × (n ≤ length s)
unfolding read_of
read-wrote t s s' r n c e =
    let d : Reads t s s' (Ok n) = subst (λ (a : Result ℕ Refusal). Reads t s s' a) e c in
    let w = bytes (word_of t) in
    let p = got (is_text t) (leb (length w) (length s)) (length w) n NotALine NoRoom d.answers in
    let h = leb-true (length w) (length s) p.0 in
    ((read-gives d).0, (read-gives d).1, omega arith)

module _ (w : List ℕ) (f : Refusal) (short : length w ≤ 65536) (n : ℕ) (large : 524288 ≤ n) (e : Err f ≡ write_of w n) where
  pub write_refused : (are_letters w ≡ false) × (number_of f ≡ not_aLetter)
  unfolding write_of
  write_refused = go (are_letters w) refl e
    where
      room : length (text_of (letters_of w)) ≤ n
      room = let a = text-short (letters_of w) in let b = length-letters w in omega arith

      go : (b : Bool) → are_letters w ≡ b → Err f ≡ cond b (fitted (text_of (letters_of w)) n) (Err NotALetter) → (are_letters w ≡ false) × (number_of f ≡ not_aLetter)
      go true a g = wrote {n = length (text_of (letters_of w))} (g ∙ rw (le-leb (length (text_of (letters_of w))) n room) refl)
      go false a g = (a, ap number_of (same-refusal g))

module _ (t : List ℕ) (f : Refusal) (short : length t ≤ 524288) (n : ℕ) (large : 65536 ≤ n) (e : Err f ≡ read_of t n) where
  pub read-refused : (is_text t ≡ false) × (number_of f ≡ not_aLine)
  unfolding read_of
  read-refused = go (is_text t) refl e
    where
      room : length (bytes (word_of t)) ≤ n
      room = let a = length-word t in omega arith

      go : (b : Bool) → is_text t ≡ b → Err f ≡ cond b (fitted (bytes (word_of t)) n) (Err NotALine) → (is_text t ≡ false) × (number_of f ≡ not_aLine)
      go true a g = wrote {n = length (bytes (word_of t))} (g ∙ rw (le-leb (length (bytes (word_of t))) n room) refl)
      go false a g = (a, ap number_of (same-refusal g))

-- ---- places
module _ (s : List ℕ) where
  pub end_none : length s ≡ 0 → 0 ≡ end_of s
  unfolding end_of
  end_none = go s
    where
      go : (s : List ℕ) → length s ≡ 0 → 0 ≡ end_of s
      go [] e = refl
      go (b ∷ s) e = absurd (omega arith)

  pub end-feed : get_or s (length s - 1) 0 ≡ 10 → length s - 1 ≡ end_of s
  unfolding end_of
  end-feed e = rw e refl

  pub end-other : (get_or s (length s - 1) 0 ≡ 10 → ⊥) → length s ≡ end_of s
  unfolding end_of
  end-other f = rw (ne_eqb (get_or s (length s - 1) 0) 10 f) refl

  pub line-here : (i : ℕ) → 0 < i → get_or s (i - 1) 0 ≡ 10 → line_start s i ≡ i
  unfolding line_start
  line-here zero h e = absurd (omega arith)
  line-here (suc i) h e = let z : suc i - 1 ≡ i = omega arith in rw (rw z at e) refl

  pub line_before : (i : ℕ) → 0 < i → (get_or s (i - 1) 0 ≡ 10 → ⊥) → line_start s i ≡ line_start s (i - 1)
  unfolding line_start
  line_before zero h f = absurd (omega arith)
  line_before (suc i) h f = let z : suc i - 1 ≡ i = omega arith in rw (z, ne_eqb (get_or s i 0) 10 (rw z at f)) refl

  pub line_first : (i : ℕ) → i ≡ 0 → line_start s i ≡ 0
  unfolding line_start
  line_first i e = rw e refl

  pub word-short : (at : ℕ) → at ≤ length s → length s - at < 5 → 0 ≡ word_start s at
  unfolding word_start
  word-short at h k = go (same (take 5 (drop at s)) mark) refl
    where
      mark : List ℕ
      mark = 119 ∷ 111 ∷ 114 ∷ 100 ∷ 32 ∷ []

      go : (b : Bool) → same (take 5 (drop at s)) mark ≡ b → 0 ≡ cond b (at + 5) 0
      go true e = absurd (let a = ap length (same_true (take 5 (drop at s)) mark e) in let b = length-take 5 (drop at s) in let c = length-drop at s in omega arith)
      go false e = refl

  pub word-there : (at : ℕ) → same (take 5 (drop at s)) (119 ∷ 111 ∷ 114 ∷ 100 ∷ 32 ∷ []) ≡ true → at + 5 ≡ word_start s at
  unfolding word_start
  word-there at e = rw e refl

  pub word-not : (at : ℕ) → same (take 5 (drop at s)) (119 ∷ 111 ∷ 114 ∷ 100 ∷ 32 ∷ []) ≡ false → 0 ≡ word_start s at
  unfolding word_start
  word-not at e = rw e refl

  pub dash_there : (at : ℕ) → same (drop at s) (45 ∷ []) ≡ true → at + 1 ≡ past_dash s at
  unfolding past_dash
  dash_there at e = rw e refl

  pub dash_not : (at : ℕ) → same (drop at s) (45 ∷ []) ≡ false → at ≡ past_dash s at
  unfolding past_dash
  dash_not at e = rw e refl

  pub begins-short : length s < 47 → false ≡ begins_file s
  unfolding begins_file
  begins-short h = go (same (take 47 s) header) refl
    where
      go : (b : Bool) → same (take 47 s) header ≡ b → false ≡ b
      go true e = absurd (let a = ap length (same_true (take 47 s) header e) in let b = length-take 47 s in omega arith)
      go false e = refl
