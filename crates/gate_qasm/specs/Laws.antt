-- Reading and writing undo each other, and two words have one text exactly when they agree after their W letters are struck.
use Rattle.std.specs.Prelude.{◌≡◌, refl, Bool, true, false, cond, List, ◌↔◌, ℕ, ◌*◌, ◌/◌, ◌%◌, eqb, length}
use Rattle.std.proofs.Common.{sym, ap, ◌∙◌, arith, take_all, eqb-true}
use Rattle.std.proofs.lemmas.Bool.{false≢true}
use Rattle.gate_alphabet.specs.Letters.{Letter}
use Rattle.gate_qasm.specs.Text.{text_of, struck, are_lines, is_text, word_of}
use Rattle.gate_qasm.specs.lemmas.Lines.{spelled, text-within}

-- ---- reading what was written: a text of lines, and the word without W
pub text-is : (w : List Letter) → is_text (text_of w) ≡ true
unfolding is_text
text-is w =
    let p = spelled w in
    let l = p.long in
    let m : length (text_of w) % 8 ≡ 0 = omega arith in
    let d : length (text_of w) / 8 ≡ length (struck w) = omega arith in
    rw (m, d) p.lines

pub word-text : (w : List Letter) → word_of (text_of w) ≡ struck w
unfolding word_of
word-text w =
    let p = spelled w in
    let l = p.long in
    let d : length (text_of w) / 8 ≡ length (struck w) = omega arith in
    rw d p.word

-- ---- writing what was read gives the text back
pub text-word : (s : List ℕ) → is_text s ≡ true → text_of (word_of s) ≡ s
unfolding is_text word_of
text-word s e =
    let (m, f) = both (eqb (length s % 8) 0) (are_lines (length s / 8) s) e in
    let z = eqb-true (length s % 8) 0 m in
    text-within (length s / 8) s (omega arith) f ∙ take_all (8 * (length s / 8)) s (omega arith)
  where
    both : (a b : Bool) → cond a b false ≡ true → (a ≡ true) × (b ≡ true)
    both true b e = (refl, e)
    both false b e = absurd (false≢true e)

-- ---- "Two words give the same text exactly when they agree after their W letters are struck"
pub text-struck : (w : List Letter) → text_of (struck w) ≡ text_of w
text-struck w = ap text_of (sym (word-text w)) ∙ text-word (text_of w) (text-is w)

pub same_text : (v w : List Letter) → (text_of v ≡ text_of w) ↔ (struck v ≡ struck w)
same_text v w = (
  (λ e. sym (word-text v) ∙ ap word_of e ∙ word-text w),
  (λ e. sym (text-struck v) ∙ ap text_of e ∙ text-struck w),
)

-- "reading gives the word without W"
pub word-struck : (s : List ℕ) → is_text s ≡ true → struck (word_of s) ≡ word_of s
word-struck s e = sym (word-text (word_of s)) ∙ ap word_of (text-word s e)

-- ---- a text that can be read is the text of a word, and no other is
pub record TextOfWord (s : List ℕ) : Type 0 where
  pub word : List Letter
  pub is : s ≡ text_of word

pub text-iff : (s : List ℕ) → (is_text s ≡ true) ↔ TextOfWord s
text-iff s = (
  (λ e. record { word = word_of s; is = sym (text-word s e) }),
  (λ t. ap is_text t.is ∙ text-is t.word),
)
