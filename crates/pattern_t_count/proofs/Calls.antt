-- For every run of the code's calls from a fresh session: the word that `shortest` and `words` (of `gate_words_lent`; or `spell` of `gate_words`) give together meets the job and has the fewest T of all words that do; and where
-- `shortest` is refused 14, no word does with fewer than the next scale. SPEC, "Shortest pattern". What is known of the calls is what their contracts promise.
use Rattle.std.specs.Prelude.{◌≡◌, refl, cond, List, [], ℕ, ◌≤◌, length, take}
use Rattle.std.proofs.Common.{sym, ap, ◌∙◌, arith}
use Rattle.std.specs.Borrow.{MutBor}
use Rattle.ring.specs.declared.Point.{Point}
use Rattle.ring.specs.Point.Exponent.{pulse_count}
use Rattle.region.specs.lemmas.Membership.{solves-true}
use Rattle.gates.specs.Written.{bytes}
use Rattle.gate_words.specs.declared.Answer.{Answer}
use Rattle.gate_words.specs.Words.{number, is_second, length_of, word_u, word_tUT, named}
use Rattle.gate_words.specs.Words as Words
use Rattle.gate_words.specs.lemmas.Laws.{hands, part-is}
use Rattle.gate_words_lent.specs.declared.Outcome.{Outcome}
use Rattle.gate_words_lent.specs.Ends.{Gives}
use Rattle.pattern_shortest.specs.Pattern.{at}
use Rattle.pattern_shortest.specs.Minimal.{found-pair}
use Rattle.pattern_optimal.proofs.lemmas.Handed.{handed_word}
use Rattle.pattern_optimal.proofs.Unbeaten.{unbeaten, unbeaten_any, attained, beyond_all, beyond_any}
use Rattle.pattern_optimal.proofs.Gates.{gates_unbeaten, gates_unbeaten_any, gates_beyond_all, gates_beyond_any}
use Rattle.record_kinds.specs.declared.Refusal.TheVariants.{NoPattern}
use Rattle.session_model.specs.Session.{shortest, refused}
use Rattle.session_model.specs.Session as Model
use Rattle.session_model.specs.lemmas.Agree.{job_of}
use Rattle.session_model.proofs.lemmas.Agree.{whole-job}
use Rattle.session_stages.specs.declared.Course.{Course}
use Rattle.session_stages.specs.declared.Stage.{Stage}
use Rattle.session_stages.specs.declared.Stage.TheVariants as S
use Rattle.session_stages.specs.declared.Session.{Session}
use Rattle.session_stages.specs.declared.Answer as Said
use Rattle.session_stages.specs.declared.Answer.TheVariants as A
use Rattle.session_stages.specs.World.{world}
use Rattle.session_stages.specs.Session.{stage_of, answer_of, Steps}
use Rattle.session.specs.Run.{Made, Run, calls_of, from-after}
use Rattle.session.specs.lemmas.Shortest.{shortest_found, shortest_missing}
use Rattle.pattern_t_count.specs.lemmas.Scale.{run-scale}
use Rattle.pattern_t_count.specs.lemmas.Room.{spelled, roomy}
use Rattle.pattern_t_count.specs.Calls.{HasJob, HasFewest, AllBeyond}

-- `shortest` is answered otherwise than by 9 where the job is whole
course : (s : Session) (a : Said.Answer) → Steps shortest [] s s a → (answer_of [] a ≡ refused 9 → ⊥) → (c : Course) × (s.stage ≡ S.Walking c)
course s a h n = go s.stage refl
  where
    go : (g : Stage) → s.stage ≡ g → (c : Course) × (s.stage ≡ S.Walking c)
    go (S.Early p) e = absurd (n (ap (λ (o : Model.Outcome world). o.0) (rw e at h.met)))
    go (S.Walking c) e = (c, e)

module _ {ms : List Made} {s : Session} (r : Run ms s) where
  job_is : (c : Course) → s.stage ≡ S.Walking c → HasJob ms c.job
  job_is c e = whole-job world (calls_of ms) ∙ ap (job_of world) (sym (from-after r)) ∙ ap (λ (g : Stage). job_of world (stage_of g)) e

-- `shortest` answers k, u and t
module _ {ms : List Made} {s : Session} (r : Run ms s) (k : ℕ) (u t : Point) (h : Steps shortest [] s s (A.Least k u t)) where
  whole-course : (c : Course) × (s.stage ≡ S.Walking c)
  whole-course = course s (A.Least k u t) h (λ e. let z : ◌≡◌ {A = ℕ} 0 1 = cc in omega arith)

  handed-fewest : (written : List ℕ) → written ≡ bytes (handed_word k u t) → HasFewest ms (pulse_count k) written
  handed-fewest written e =
      let (c, w) = whole-course in
      let f = shortest_found s c w k u t h in
      let a = attained c.job k u t f in
      record {
        job = c.job;
        has-job = job_is r c w;
        word = handed_word k u t;
        bytes-are = e;
        meets = a.meets;
        Ts-are = a.Ts-are;
        fewest = λ v m. unbeaten c.job v m k u t f;
        fewest-gates = λ g m. gates_unbeaten c.job g m k u t f;
        fewest-any = λ v m. unbeaten_any c.job v m k u t f;
        fewest-gates-any = λ g m. gates_unbeaten_any c.job g m k u t f;
      }

  -- what `words` hands back, in any two slices that it does not refuse
  pub run-fewest : {x y : MutBor (List ℕ)} {o : Outcome} → Gives k u t x y o → o.number ≡ 0 → HasFewest ms (pulse_count k) o.word.now
  run-fewest {x} {y} {o} g z = handed-fewest o.word.now (g.word ∙ ap (λ a. bytes (named (word_u k u t) (word_tUT k u t) a)) (spelled k u t (length x.now) (length y.now) (sym g.number ∙ z)))

  -- nor is it refused where both have 128 bytes
  pub run-spelled : {x y : MutBor (List ℕ)} {o : Outcome} → Gives k u t x y o → 128 ≤ length x.now → 128 ≤ length y.now → o.number ≡ 0
  run-spelled {x} {y} g a b =
      let (c, w) = whole-course in
      let (d, p, n) = found-pair c.job k u t (shortest_found s c w k u t h) in
      g.number ∙ roomy k u t (length x.now) (length y.now) (solves-true (at c.job k) u p.inside).scale p.equation a b

  -- and what `spell` writes, at the front of the slice that it answers
  pub run-fewest_spell : {x y x' y' : List ℕ} {a : Answer} → Words.Spells k u t x y x' y' a → number a ≡ 0 → HasFewest ms (pulse_count k) (take (length_of a) (cond (is_second a) y' x'))
  run-fewest_spell {x} {y} {x'} {y'} {a} g z =
      handed-fewest (take (length_of a) (cond (is_second a) y' x'))
      (part-is k u t x y (hands k u t x y {p = record { number = number a; second = is_second a; len = length_of a }} g (refl, refl, refl))
      ∙ ap (λ a. bytes (named (word_u k u t) (word_tUT k u t) a)) (spelled k u t (length x) (length y) (sym (ap number g.answers) ∙ z)))

pub run-beyond : {ms : List Made} {s : Session} → Run ms s → Steps shortest [] s s (A.Refused NoPattern) → AllBeyond ms
run-beyond {s} r h =
    let (c, w) = course s (A.Refused NoPattern) h (λ e. let z : ◌≡◌ {A = ℕ} 14 9 = cc in omega arith) in
    let f = shortest_missing s c w h in
    let k = run-scale r c w in
    record {
      job = c.job;
      has-job = job_is r c w;
      beyond = λ v m. beyond_all c.job v m k f;
      beyond-gates = λ g m. gates_beyond_all c.job g m k f;
      beyond_any = λ v m. beyond_any c.job v m k f;
      beyond-gates-any = λ g m. gates_beyond_any c.job g m k f;
    }
