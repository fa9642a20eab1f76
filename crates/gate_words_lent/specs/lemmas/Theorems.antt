-- SPEC, "Gate words": what is true of the words, for all k, u and t that solve the equation of "Other entry".
use Rattle.std.specs.Prelude.{◌≡◌, Bool, List, ℕ, ◌≤◌, ◌<◌, min, leb, length, take}
use Rattle.std.proofs.Math.Path.{refl}
use Rattle.std.proofs.Common.{sym, ◌∙◌, ap, arith, lt-ltb, le-ltb, ltb-false}
use Rattle.std.proofs.Math.Bool.{true, false, cond}
use Rattle.std.proofs.Math.Decide.{dec_lt}
use Rattle.std.proofs.Math.Nat.{min-eq_left, min-eq_right}
use Rattle.std.specs.Borrow.{MutBor}
use Rattle.ring.specs.declared.Point.{Point}
use Rattle.ring.specs.Point.Exponent.{exponent_of, pulse_count, pulse_is}
use Rattle.record_ranges.specs.Ranges.{top_scale}
use Rattle.entry_equation.specs.Equation.{completes}
use Rattle.gate_theory.specs.Points.{turn}
use Rattle.gate_theory.specs.Table.{Letter}
use Rattle.gate_theory.specs.Word.{Ts}
use Rattle.gate_theory.specs.Matrix.{Spells, made}
use Rattle.gate_theory.proofs.lemmas.Least.{equation_turn}
use Rattle.gate_theory.proofs.lemmas.Number.{least-Ts}
use Rattle.gate_theory.proofs.Exact as Exact
use Rattle.gate_theory.specs.Normal.{Normal}
use Rattle.gate_theory.proofs.Tailed.{normal}
use Rattle.gate_theory.proofs.lemmas.Only.{only_word}
use Rattle.gates.specs.Written.{bytes, tally, tally-is}
use Rattle.gate_words.specs.declared.Answer.TheVariants.{First, Second, Refused}
use Rattle.gate_words.specs.declared.Refusal.TheVariants.{OutOfRange, NoRoom}
use Rattle.gate_words.specs.declared.Part.{Part}
use Rattle.gate_words.specs.Words.{number, word_u, word_tUT, is_fewer, named, handed, fit, answer_of, answer, handed_back, Hands}
use Rattle.gate_words.specs.lemmas.Laws.{solves, part-is}
use Rattle.gate_words_lent.specs.declared.Outcome.{Outcome}
use Rattle.gate_words_lent.specs.Ends.{Gives}

module _ (k : ℕ) (u t : Point) (e : completes k u t ≡ true) where
  -- "The word is the Matsumoto-Amano normal form": of U, and of TUT†
  pub U-normal : Normal (word_u k u t)
  U-normal = normal k u t (solves k u t e)

  pub TUT-normal : Normal (word_tUT k u t)
  TUT-normal = normal k u (turn t) (equation_turn k u t (solves k u t e))

  -- "The product must equal the matrix exactly": rows (u, −t†) and (t, u†) over √2^k, and with ω t for t
  pub U-spells : Spells (word_u k u t) k (made u t 0)
  U-spells = Exact.word-spells k u t (solves k u t e)

  pub TUT-spells : Spells (word_tUT k u t) k (made u (turn t) 0)
  TUT-spells = Exact.word-spells k u (turn t) (equation_turn k u t (solves k u t e))

  -- no other normal form has that product
  pub U-only : (w : List Letter) → Normal w → Spells w k (made u t 0) → w ≡ word_u k u t
  U-only w n s = only_word k u t (solves k u t e) w n s

  pub TUT-only : (w : List Letter) → Normal w → Spells w k (made u (turn t) 0) → w ≡ word_tUT k u t
  TUT-only w n s = only_word k u (turn t) (equation_turn k u t (solves k u t e)) w n s

  -- its number of T is the pulse count of u (SPEC, "Exponent"): 2e − 2, and 0 where e = 0
  pub handed-Ts : Ts (named (word_u k u t) (word_tUT k u t) (handed k u t)) ≡ pulse_count (exponent_of k u)
  handed-Ts = fewer (dec_lt (Ts (word_tUT k u t)) (Ts (word_u k u t))) ∙ least-Ts k u t (solves k u t e) ∙ sym (pulse_is (exponent_of k u))
    where
      fewer : Dec (Ts (word_tUT k u t) < Ts (word_u k u t)) → Ts (named (word_u k u t) (word_tUT k u t) (handed k u t)) ≡ min (Ts (word_u k u t)) (Ts (word_tUT k u t))
      fewer (yes l) = ap (λ b. Ts (named (word_u k u t) (word_tUT k u t) (cond b (Second (length (word_tUT k u t))) (First (length (word_u k u t)))))) (lt-ltb (Ts (word_tUT k u t)) (Ts (word_u k u t)) l) ∙ sym (min-eq_right {n = Ts (word_tUT k u t)} {m = Ts (word_u k u t)} (omega arith))
      fewer (no l) = ap (λ b. Ts (named (word_u k u t) (word_tUT k u t) (cond b (Second (length (word_tUT k u t))) (First (length (word_u k u t)))))) (le-ltb (Ts (word_tUT k u t)) (Ts (word_u k u t)) (omega arith)) ∙ sym (min-eq_left {n = Ts (word_u k u t)} {m = Ts (word_tUT k u t)} (omega arith))

  -- an answer that is no refusal hands back that word
  handed-back : (m n : ℕ) → number (answer_of k u t m n) ≡ 0 → answer_of k u t m n ≡ handed k u t
  unfolding answer_of
  handed-back m n z = rw e (go (leb k top_scale) (fit k u t m n) (rw e at z))
    where
      go : (b c : Bool) → number (cond b (cond c (handed k u t) (Refused NoRoom)) (Refused OutOfRange)) ≡ 0 → cond b (cond c (handed k u t) (Refused NoRoom)) (Refused OutOfRange) ≡ handed k u t
      go true true z = refl
      go true false z = absurd (omega arith)
      go false c z = absurd (omega arith)

  -- "its T number is the m of Ticket 3": of the bytes of the part that `gate_words::spell` answers, and of those that `words` hands back
  bytes-Ts : (s v : List ℕ) → number (answer k u t s v) ≡ 0 → tally (bytes (handed_back k u t s v)) ≡ pulse_count (exponent_of k u)
  bytes-Ts s v z = tally-is (handed_back k u t s v) ∙ ap (λ a. Ts (named (word_u k u t) (word_tUT k u t) a)) (handed-back (length s) (length v) z) ∙ handed-Ts

  pub part-Ts : (s v : List ℕ) {s' v' : List ℕ} {r : Part} → Hands k u t s v s' v' r → r.number ≡ 0 → tally (take r.len (cond r.second v' s')) ≡ pulse_count (exponent_of k u)
  part-Ts s v h z = ap tally (part-is k u t s v h) ∙ bytes-Ts s v (sym h.number ∙ z)

  pub word-Ts : (x y : MutBor (List ℕ)) {r : Outcome} → Gives k u t x y r → r.number ≡ 0 → tally r.word.now ≡ pulse_count (exponent_of k u)
  word-Ts x y g z = ap tally g.word ∙ bytes-Ts x.now y.now (sym g.number ∙ z)

  -- "whichever slice has fewer T, that of U if equal"
  pub U-unless : is_fewer k u t ≡ false → Ts (word_u k u t) ≤ Ts (word_tUT k u t)
  U-unless f = ltb-false (Ts (word_tUT k u t)) (Ts (word_u k u t)) f
