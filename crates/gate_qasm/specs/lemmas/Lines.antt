-- Lines: which bytes are one, the lines of a text and of its front, and the text of a word as lines.
use Rattle.std.specs.Prelude.{◌≡◌, Bool, true, false, ◌||◌, eqb, take}
use Rattle.std.proofs.Math.Path.{refl, ap, ap₂}
use Rattle.std.proofs.Common.{sym, ◌∙◌, le_of_eq, arith, length-append, take-add, drop_at, get_or-take, get_or-drop, eqb-true, eq-eqb}
use Rattle.std.proofs.lemmas.Bool.{false≢true}
use Rattle.std.proofs.Math.Bool.{◌&&◌}
use mathlib.Core.List.{List, [], ◌∷◌, ◌++◌, append-nil}
use Prim.Native.Nat.{ℕ, zero, suc, ◌+◌, ◌*◌, ◌≤◌}
use Rattle.std.proofs.Math.ListN.{length, get_or, drop, length-drop, get_or-append}
use Rattle.std.proofs.Math.Seq.{take_all, take-append-le, drop-append-le}
use Rattle.integers.specs.lemmas.Booleans.{both_true, both_of}
use Rattle.gate_alphabet.specs.Letters.{Letter, H, S, T, W}
use Rattle.gate_qasm.specs.Text.{line, text_of, struck, same, is_line, line_at, are_lines, gate_of, word_within}

-- ---- the tests
pub same_true : (w v : List ℕ) → same w v ≡ true → w ≡ v
unfolding same
same_true [] [] e = refl
same_true [] (b ∷ v) e = absurd (false≢true e)
same_true (a ∷ w) [] e = absurd (false≢true e)
same_true (a ∷ w) (b ∷ v) e = let (f, g) = both_true (eqb a b) (same w v) e in ap₂ ◌∷◌ (eqb-true a b f) (same_true w v g)

same_self : (w : List ℕ) → same w w ≡ true
unfolding same
same_self [] = refl
same_self (a ∷ w) = both_of (eq-eqb a a refl) (same_self w)

pub true_same : (w v : List ℕ) → w ≡ v → same w v ≡ true
true_same w v e = rw e (same_self v)

one_of : {P : Type 0} (a b c : Bool) → (a ≡ true → P) → (b ≡ true → P) → (c ≡ true → P) → a || (b || c) ≡ true → P
one_of true b c f g h e = f refl
one_of false true c f g h e = g refl
one_of false false true f g h e = h refl
one_of false false false f g h e = absurd (false≢true e)

-- a line is that of the letter its first byte tells
line-is : (l : List ℕ) → is_line l ≡ true → l ≡ line (gate_of (get_or l 0 0))
unfolding is_line gate_of
line-is l e = one_of _ _ _ (opened H refl) (opened S refl) (opened T refl) e
  where
    opened : (x : Letter) → line (gate_of (get_or (line x) 0 0)) ≡ line x → same l (line x) ≡ true → l ≡ line (gate_of (get_or l 0 0))
    opened x g f = let i = same_true l (line x) f in i ∙ sym g ∙ sym (ap (λ (l : List ℕ). line (gate_of (get_or l 0 0))) i)

-- ---- the letters with a line
record Gate (x : Letter) : Type 0 where
  eight : length (line x) ≡ 8
  good : is_line (line x) ≡ true
  first : gate_of (get_or (line x) 0 0) ≡ x

gate-H : Gate H
unfolding is_line same gate_of
gate-H = record { eight = refl; good = refl; first = refl }

gate-S : Gate S
unfolding is_line same gate_of
gate-S = record { eight = refl; good = refl; first = refl }

gate-T : Gate T
unfolding is_line same gate_of
gate-T = record { eight = refl; good = refl; first = refl }

-- ---- the first lines of a text are those of its front
module _ (s r : List ℕ) where
  lines-front : (n : ℕ) → 8 * n ≤ length s → are_lines n (s ++ r) ≡ are_lines n s
  unfolding are_lines
  lines-front zero h = refl
  lines-front (suc n) h =
      let e : drop (8 * n) (s ++ r) ≡ drop (8 * n) s ++ r = drop-append-le (8 * n) s r (omega arith) in
      let k : 8 ≤ length (drop (8 * n) s) = rw length-drop (omega arith) in
      ap₂ ◌&&◌ (ap is_line (ap (take 8) e ∙ take-append-le 8 (drop (8 * n) s) r k)) (lines-front n (omega arith))

  word-front : (n : ℕ) → 8 * n ≤ length s → word_within n (s ++ r) ≡ word_within n s
  unfolding word_within
  word-front zero h = refl
  word-front (suc n) h = ap₂ (λ (b : ℕ) (w : List Letter). gate_of b ∷ w) (get_or-append s r 0 (8 * n) (omega arith)) (word-front n (omega arith))

-- ---- one line more
first-at : (s : List ℕ) (n : ℕ) → get_or (drop n s) 0 0 ≡ get_or s n 0
first-at s n = let e : n + 0 ≡ n = omega arith in get_or-drop n s 0 0 ∙ ap (λ (k : ℕ). get_or s k 0) e

module _ (s : List ℕ) (n : ℕ) (x : Letter) (g : Gate x) (long : length s ≡ 8 * n) where
  behind : drop (8 * n) (s ++ line x) ≡ line x
  behind = drop_at s (line x) (8 * n) long

  lines_more : are_lines n s ≡ true → are_lines (suc n) (s ++ line x) ≡ true
  unfolding are_lines
  lines_more e = both_of
      (ap is_line (ap (take 8) behind ∙ take_all 8 (line x) (le_of_eq g.eight)) ∙ g.good)
      (lines-front s (line x) n (omega arith) ∙ e)

  word_more : word_within (suc n) (s ++ line x) ≡ x ∷ word_within n s
  unfolding word_within
  word_more = ap₂ ◌∷◌
      (ap gate_of (sym (first-at (s ++ line x) (8 * n)) ∙ ap (λ (l : List ℕ). get_or l 0 0) behind) ∙ g.first)
      (word-front s (line x) n (omega arith))

-- ---- the text of a word: its lines, and the word that they spell
pub record Spelled (w : List Letter) (s : List ℕ) : Type 0 where
  pub long : length s ≡ 8 * length w
  pub lines : are_lines (length w) s ≡ true
  pub word : word_within (length w) s ≡ w

spelled-more : (w : List Letter) (s : List ℕ) (x : Letter) → Gate x → Spelled w s → Spelled (x ∷ w) (s ++ line x)
spelled-more w s x g p = record {
  long = let e = length-append s (line x) in let f = g.eight in let l = p.long in omega arith;
  lines = lines_more s (length w) x g p.long p.lines;
  word = word_more s (length w) x g p.long ∙ ap (λ (v : List Letter). x ∷ v) p.word;
}

pub spelled : (w : List Letter) → Spelled (struck w) (text_of w)
unfolding struck text_of are_lines word_within
spelled [] = record { long = refl; lines = refl; word = refl }
spelled (H ∷ w) = spelled-more (struck w) (text_of w) H gate-H (spelled w)
spelled (S ∷ w) = spelled-more (struck w) (text_of w) S gate-S (spelled w)
spelled (T ∷ w) = spelled-more (struck w) (text_of w) T gate-T (spelled w)
spelled (W ∷ w) = rw append-nil (spelled w)

-- ---- the text of the word of some lines is these lines
pub text-within : (n : ℕ) (s : List ℕ) → 8 * n ≤ length s → are_lines n s ≡ true → text_of (word_within n s) ≡ take (8 * n) s
unfolding are_lines word_within text_of
text-within zero s h e = refl
text-within (suc n) s h e =
    let (f, g) = both_true (is_line (line_at n s)) (are_lines n s) e in
    let k : 8 * suc n ≡ 8 * n + 8 = omega arith in
    let a : get_or (line_at n s) 0 0 ≡ get_or s (8 * n) 0 = get_or-take 8 (drop (8 * n) s) 0 0 (omega arith) ∙ first-at s (8 * n) in
    let b : line (gate_of (get_or s (8 * n) 0)) ≡ line_at n s = sym (line-is (line_at n s) f ∙ ap (λ (b : ℕ). line (gate_of b)) a) in
    ap₂ ◌++◌ (text-within n s (omega arith) g) b ∙ sym (take-add (8 * n) 8 s) ∙ ap (λ (j : ℕ). take j s) (sym k)
