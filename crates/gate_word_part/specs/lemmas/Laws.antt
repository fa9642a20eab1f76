-- A call keeps the lengths of the two slices; a refusal writes nothing, in none of the three.
use Rattle.std.specs.Prelude.{◌≡◌, refl, Bool, true, false, cond, List, [], ℕ, ◌≤◌, ◌<◌, ◌+◌, ◌-◌, leb, length, drop}
use Rattle.std.proofs.Common.{◌∙◌, subst, arith, length-append, length-drop}
use borrow.Author.Tests.{leb-true}
use Rattle.integers.specs.lemmas.Booleans.{both_true}
use Rattle.ring.specs.declared.Point.{Point}
use Rattle.record_ranges.specs.Ranges.{top_scale}
use Rattle.entry_equation.specs.Equation.{completes}
use Rattle.gate_theory.specs.Table.{Letter}
use Rattle.text.specs.Written.{written}
use Rattle.gates.specs.Written.{bytes, length-bytes}
use Rattle.gate_words.specs.declared.Refusal.TheVariants.{OutOfRange, NotUnitary, NoRoom}
use Rattle.gate_words.specs.declared.Answer.{Answer}
use Rattle.gate_words.specs.declared.Answer.TheVariants.{First, Second, Refused}
use Rattle.gate_words.specs.Words.{number, is_spelled, named, word_u, word_tUT, is_fewer, fit, answer_of, answer, laid, first_after, second_after}
use Rattle.gate_word_part.specs.declared.Copied.{Copied}
use Rattle.gate_word_part.specs.Copies.{Copies}

laid-length : (x : List Letter) (s : List ℕ) → length x ≤ length s → length (laid (bytes x) s) ≡ length s
laid-length x s h =
    let n : length (bytes x) ≡ length x = length-bytes x in
    let a : length (laid (bytes x) s) ≡ length (bytes x) + length (drop (length (bytes x)) s) = length-append (bytes x) (drop (length (bytes x)) s) in
    let d : length (drop (length (bytes x)) s) ≡ length s - length (bytes x) = length-drop (length (bytes x)) s in
    omega (arith, n, a, d, h)

-- what is laid where the answer has words, by the tests in their order
kept : (x y : List Letter) (w : List Letter) (s : List ℕ) (b c d e : Bool) → (d ≡ true → length w ≤ length s) → let r : Answer = cond b (cond c (cond d (cond e (Second (length y)) (First (length x))) (Refused NoRoom)) (Refused NotUnitary)) (Refused OutOfRange) in
    length (cond (is_spelled r) (laid (bytes w) s) s) ≡ length s
kept x y w s true true true true h = laid-length w s (h refl)
kept x y w s true true true false h = laid-length w s (h refl)
kept x y w s true true false e h = refl
kept x y w s true false d e h = refl
kept x y w s false c d e h = refl

nothing : (z : List ℕ) → written z 0 [] ≡ z
unfolding written
nothing z = go (leb 0 (length z))
  where
    go : (b : Bool) → cond b z z ≡ z
    go true = refl
    go false = refl

module _ (k : ℕ) (u t : Point) (s v : List ℕ) where
  pub first-length : length (first_after k u t s v) ≡ length s
  unfolding answer_of
  first-length = kept (word_u k u t) (word_tUT k u t) (word_u k u t) s (leb k top_scale) (completes k u t) (fit k u t (length s) (length v)) (is_fewer k u t) (λ f. leb-true _ _ (both_true (leb (length (word_u k u t)) (length s)) (leb (length (word_tUT k u t)) (length v)) f).0)

  pub second-length : length (second_after k u t s v) ≡ length v
  unfolding answer_of
  second-length = kept (word_u k u t) (word_tUT k u t) (word_tUT k u t) v (leb k top_scale) (completes k u t) (fit k u t (length s) (length v)) (is_fewer k u t) (λ f. leb-true _ _ (both_true (leb (length (word_u k u t)) (length s)) (leb (length (word_tUT k u t)) (length v)) f).1)

  -- "A refusal writes nothing"
  pub refused_keeps : {z s' v' z' : List ℕ} {r : Copied} → Copies k u t s v z s' v' z' r → 0 < r.number → (s' ≡ s) × (v' ≡ v) × (z' ≡ z)
  refused_keeps {z} e h =
      let g = go (answer k u t s v) (subst (λ (n : ℕ). 0 < n) e.number h) in
      (e.first ∙ g.0, e.second ∙ g.1, e.part ∙ g.2)
    where
      go : (a : Answer) → 0 < number a → (cond (is_spelled a) (laid (bytes (word_u k u t)) s) s ≡ s) × (cond (is_spelled a) (laid (bytes (word_tUT k u t)) v) v ≡ v) × (written z 0 (bytes (named (word_u k u t) (word_tUT k u t) a)) ≡ z)
      go (First n) h = absurd (omega (arith, h))
      go (Second n) h = absurd (omega (arith, h))
      go (Refused why) h = (refl, refl, nothing z)
