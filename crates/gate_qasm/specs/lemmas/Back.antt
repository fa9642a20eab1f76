-- The two calls, one after the other: what the contracts promise of what was written and read back, and of refusals.
use Rattle.std.specs.Prelude.{◌≡◌, refl, Bool, true, false, cond, List, ◌↔◌, ℕ, ◌≤◌, leb, length, take, Result, Ok, Err}
use Rattle.std.proofs.Common.{ap, ◌∙◌, arith, leb-true, le-leb}
use Rattle.text.specs.Written.{written, after}
use Rattle.text.specs.Append.{appended}
use Rattle.gate_alphabet.specs.Letters.{Letter, bytes, length-bytes, letters_of, are_letters, are_bytes, letters-bytes}
use Rattle.gate_qasm.specs.declared.Refusal.{Refusal}
use Rattle.gate_qasm.specs.declared.Refusal.TheVariants.{NotALetter, NotALine, NoRoom}
use Rattle.gate_qasm.specs.Text.{text_of, struck, is_text, word_of}
use Rattle.gate_qasm.specs.Calls.{fitted, write_of, text_after, Writes, read_of, word_after, Reads}
use Rattle.gate_qasm.specs.Laws.{text-is, word-text, text-word, TextOfWord, text-iff}

-- ---- an answer, by its tests: bytes bs for a slice s, where the first test passes
module _ (p : Bool) (bs s : List ℕ) (f : Refusal) where
  abbrev answer : Result ℕ Refusal
  answer = cond p (fitted bs (length s)) (Err f)

  abbrev slice : List ℕ
  slice = cond p (written s 0 bs) s

  -- n bytes were written: they are bs
  wrote : (n : ℕ) → Ok n ≡ answer → (p ≡ true) × (take n slice ≡ bs)
  wrote n e = go p (leb (length bs) (length s)) refl e
    where
      go : (q m : Bool) → leb (length bs) (length s) ≡ m → Ok n ≡ cond q (cond m (Ok (length bs)) (Err NoRoom)) (Err f) → (q ≡ true) × (take n (cond q (written s 0 bs) s) ≡ bs)
      go true true h e =
          let k : n ≡ length bs = cc in
          let l = leb-true (length bs) (length s) h in
          let a = appended s 0 bs (written s 0 bs) (after s 0 bs) (omega arith) refl refl in
          let r : n ≡ after s 0 bs = omega (arith, a.end) in
          (refl, ap (λ (j : ℕ). take j (written s 0 bs)) r ∙ a.text)
      go true false h e = absurd (let z : ◌≡◌ {A = ℕ} 0 1 = cc in omega arith)
      go false m h e = absurd (let z : ◌≡◌ {A = ℕ} 0 1 = cc in omega arith)

-- ---- "Bytes past what is written keep their values", and a refusal leaves them all: `written` says so
module _ {w s s' : List ℕ} {n : ℕ} (c : Writes w s s' (Ok n)) where
  pub write_gives : (are_letters w ≡ true) × (take n s' ≡ text_of (letters_of w))
  unfolding write_of text_after
  write_gives = rw c.slice (wrote (are_letters w) (text_of (letters_of w)) s NotALetter n c.answers)

module _ {t s s' : List ℕ} {n : ℕ} (c : Reads t s s' (Ok n)) where
  pub read-gives : (is_text t ≡ true) × (take n s' ≡ bytes (word_of t))
  unfolding read_of word_after
  read-gives = rw c.slice (wrote (is_text t) (bytes (word_of t)) s NotALine n c.answers)

-- ---- written and read back: the word without W; read and written again: the text
pub write_read : {w s s' v v' : List ℕ} {n m : ℕ} → Writes w s s' (Ok n) → Reads (take n s') v v' (Ok m) → take m v' ≡ bytes (struck (letters_of w))
write_read {w} a b = (read-gives b).1 ∙ ap (λ (t : List ℕ). bytes (word_of t)) (write_gives a).1 ∙ ap bytes (word-text (letters_of w))

pub read-write : {t s s' v v' : List ℕ} {n m : ℕ} → Reads t s s' (Ok n) → Writes (take n s') v v' (Ok m) → take m v' ≡ t
read-write {t} a b =
    (write_gives b).1 ∙ ap (λ (x : List ℕ). text_of (letters_of x)) (read-gives a).1 ∙ ap text_of (letters-bytes (word_of t)) ∙ text-word t (read-gives a).0

-- and with room both ways are open
pub reads_written : (w : List Letter) (n : ℕ) → length (struck w) ≤ n → read_of (text_of w) n ≡ Ok (length (struck w))
unfolding read_of
reads_written w n h = rw (text-is w, word-text w, length-bytes (struck w), le-leb (length (struck w)) n h) refl

pub writes_read : (t : List ℕ) (n : ℕ) → is_text t ≡ true → length t ≤ n → write_of (bytes (word_of t)) n ≡ Ok (length t)
unfolding write_of
writes_read t n e h = rw (are_bytes (word_of t), letters-bytes (word_of t), text-word t e, le-leb (length t) n h) refl

-- ---- 17 is for a text that no word has
pub refused_17 : (t : List ℕ) (n : ℕ) → (read_of t n ≡ Err NotALine) ↔ (TextOfWord t → ⊥)
unfolding read_of
refused_17 t n = (
  (λ e w. no ((text-iff t).1 w) e),
  (λ f. go (is_text t) (λ e. f ((text-iff t).0 e))),
)
  where
    fits : (m : Bool) (k : ℕ) → cond m (Ok k) (Err NoRoom) ≡ Err NotALine → ⊥
    fits true k e = let z : ◌≡◌ {A = ℕ} 0 1 = cc in omega arith
    fits false k e = let z : ◌≡◌ {A = ℕ} 0 1 = cc in omega arith

    no : is_text t ≡ true → cond (is_text t) (fitted (bytes (word_of t)) n) (Err NotALine) ≡ Err NotALine → ⊥
    no i e = fits (leb (length (bytes (word_of t))) n) (length (bytes (word_of t))) (rw i at e)

    go : (b : Bool) → (b ≡ true → ⊥) → cond b (fitted (bytes (word_of t)) n) (Err NotALine) ≡ Err NotALine
    go true f = absurd (f refl)
    go false f = refl
