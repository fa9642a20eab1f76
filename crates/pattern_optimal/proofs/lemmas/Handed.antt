-- The word that `gate_words_lent` hands back, that of U or of TUT†: its matrix has that u, and it has the fewest T. SPEC, "Gate words".
use Rattle.std.specs.Prelude.{◌≡◌, Bool, true, false, cond, List, ℕ, ◌+◌, ◌%◌, ◌≤◌, length}
use Rattle.std.proofs.Common.{arith}
use Rattle.ring.specs.declared.Point.{Point}
use Rattle.entry_equation.specs.Equation.{completes}
use Rattle.gate_theory.specs.Points.{turn}
use Rattle.gate_theory.specs.Table.{Letter}
use Rattle.gate_theory.specs.Matrix.{Spells, made}
use Rattle.gate_theory.specs.Word.{Ts}
use Rattle.gate_words.specs.declared.Answer.TheVariants.{First, Second}
use Rattle.gate_words.specs.Words.{word_u, word_tUT, is_fewer, named, handed}
use Rattle.gate_words_lent.specs.lemmas.Theorems.{U-spells, TUT-spells, handed-Ts}
use Rattle.pattern_optimal.proofs.lemmas.Fewest.{pulses}

abbrev pub handed_word : ℕ → Point → Point → List Letter
handed_word k u t = named (word_u k u t) (word_tUT k u t) (handed k u t)

-- w spells the matrix with rows (u, −t†) and (t, u†) over √2^k, for some t
pub record Has (k : ℕ) (u : Point) (w : List Letter) : Type 0 where
  pub t : Point
  pub spells : Spells w k (made u t 0)

module _ (k : ℕ) (u t : Point) (e : completes k u t ≡ true) where
  pub handed-has : Has k u (handed_word k u t)
  handed-has = go (is_fewer k u t)
    where
      go : (b : Bool) → Has k u (named (word_u k u t) (word_tUT k u t) (cond b (Second (length (word_tUT k u t))) (First (length (word_u k u t)))))
      go true = record { t = turn t; spells = TUT-spells k u t e }
      go false = record { t = t; spells = U-spells k u t e }

  -- of all words whose matrix has that u, whatever its t; and with an odd power of ω for determinant at most one spares a T
  pub handed-fewest : (x : Point) (l : ℕ) (w : List Letter) → Spells w k (made u x l) → Ts (handed_word k u t) ≤ Ts w + l % 2
  handed-fewest x l w s = omega (arith, handed-Ts k u t e, pulses k u x l w s)
