-- The word that is printed is never a refusal's: what `shortest` finds solves the equation, and its words have at most 128 letters. So it spells its matrix, and it has m T.
use Rattle.std.specs.Prelude.{◌≡◌, refl, true, ℕ, ◌≤◌, length}
use Rattle.std.proofs.Common.{le-leb}
use Rattle.ring.specs.declared.Point.{Point}
use Rattle.ring.specs.Point.Exponent.{exponent_of, pulse_count}
use Rattle.record_ranges.specs.Ranges.{top_scale}
use Rattle.entry_equation.specs.Equation.{completes}
use Rattle.region.specs.declared.Job.{Job}
use Rattle.region.specs.lemmas.Membership.{solves-true}
use Rattle.gate_theory.specs.Points.{turn}
use Rattle.gate_theory.specs.Word.{Ts}
use Rattle.gate_theory.proofs.lemmas.Least.{equation_turn}
use Rattle.gate_theory.proofs.lemmas.Length.{word-length}
use Rattle.gate_words.specs.Words.{word_u, word_tUT, named, handed, answer_of}
use Rattle.gate_words.specs.lemmas.Laws.{solves}
use Rattle.gate_words_lent.specs.lemmas.Theorems.{handed-Ts}
use Rattle.pattern_shortest.specs.declared.Pattern.TheVariants as P
use Rattle.pattern_shortest.specs.Pattern.{pattern_of, at}
use Rattle.pattern_shortest.specs.Minimal.{found-pair}

spelled : (k : ℕ) (u t : Point) → k ≤ top_scale → completes k u t ≡ true → answer_of k u t 128 128 ≡ handed k u t
unfolding answer_of
spelled k u t h e =
    let q = solves k u t e in
    rw (le-leb k top_scale h, e, le-leb (length (word_u k u t)) 128 (word-length k u t h q), le-leb (length (word_tUT k u t)) 128 (word-length k u (turn t) h (equation_turn k u t q))) refl

pub found-spelled : (j : Job) (s : ℕ) (u t : Point) → pattern_of j ≡ P.Found s u t
    → (answer_of s u t 128 128 ≡ handed s u t) × (Ts (named (word_u s u t) (word_tUT s u t) (answer_of s u t 128 128)) ≡ pulse_count (exponent_of s u))
found-spelled j s u t e =
    let (h, p, n) = found-pair j s u t e in
    let a = spelled s u t (solves-true (at j s) u p.inside).scale p.equation in
    (a, rw a (handed-Ts s u t p.equation))
