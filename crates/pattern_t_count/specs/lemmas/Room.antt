-- Where the words are not refused: they are those of the pattern, and two slices of 128 bytes are enough. SPEC, "Gate words".
use Rattle.std.specs.Prelude.{◌≡◌, refl, Bool, true, false, cond, ℕ, ◌≤◌, leb, length}
use Rattle.std.proofs.Common.{arith, le-leb}
use Rattle.ring.specs.declared.Point.{Point}
use Rattle.record_ranges.specs.Ranges.{top_scale}
use Rattle.entry_equation.specs.Equation.{completes}
use Rattle.gate_theory.specs.Points.{turn}
use Rattle.gate_theory.proofs.lemmas.Least.{equation_turn}
use Rattle.gate_theory.proofs.lemmas.Length.{word-length}
use Rattle.gate_words.specs.declared.Refusal.TheVariants.{OutOfRange, NotUnitary, NoRoom}
use Rattle.gate_words.specs.declared.Answer.TheVariants.{First, Second, Refused}
use Rattle.gate_words.specs.Words.{word_u, word_tUT, number, is_fewer, handed, fit, answer_of}
use Rattle.gate_words.specs.lemmas.Laws.{solves}

-- the number is 0: the answer is the word with fewer T
pub spelled : (k : ℕ) (u t : Point) (m n : ℕ) → number (answer_of k u t m n) ≡ 0 → answer_of k u t m n ≡ handed k u t
unfolding answer_of
spelled k u t m n e = go (leb k top_scale) (completes k u t) (fit k u t m n) e
  where
    go : (x y z : Bool) → number (cond x (cond y (cond z (handed k u t) (Refused NoRoom)) (Refused NotUnitary)) (Refused OutOfRange)) ≡ 0
        → cond x (cond y (cond z (handed k u t) (Refused NoRoom)) (Refused NotUnitary)) (Refused OutOfRange) ≡ handed k u t
    go true true true e = refl
    go true true false e = absurd (omega arith)
    go true false z e = absurd (omega arith)
    go false y z e = absurd (omega arith)

-- in slices of 128 bytes or more
pub roomy : (k : ℕ) (u t : Point) (m n : ℕ) → k ≤ top_scale → completes k u t ≡ true → 128 ≤ m → 128 ≤ n → number (answer_of k u t m n) ≡ 0
unfolding answer_of
roomy k u t m n h e a b =
    let q = solves k u t e in
    rw (
      le-leb k top_scale h,
      e,
      le-leb (length (word_u k u t)) m (omega (arith, word-length k u t h q)),
      le-leb (length (word_tUT k u t)) n (omega (arith, word-length k u (turn t) h (equation_turn k u t q))),
    ) (go (is_fewer k u t))
  where
    go : (x : Bool) → number (cond x (Second (length (word_tUT k u t))) (First (length (word_u k u t)))) ≡ 0
    go true = refl
    go false = refl
