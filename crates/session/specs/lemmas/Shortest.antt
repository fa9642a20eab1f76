-- The shortest pattern of a session's job: SPEC, "Shortest pattern". What `shortest` answers is the pattern of the job, whatever the place of the walk and the operator that is remembered; so
-- the theorems of `pattern_shortest` about it hold of the answer.
use Rattle.std.specs.Prelude.{◌≡◌, refl, [], ℕ}
use Rattle.std.proofs.Common.{sym, ap, arith}
use Rattle.ring.specs.declared.Point.{Point}
use Rattle.record_kinds.specs.declared.Refusal.TheVariants.{NoPattern}
use Rattle.pattern_shortest.specs.declared.Pattern.{Pattern}
use Rattle.pattern_shortest.specs.declared.Pattern.TheVariants as P
use Rattle.pattern_shortest.specs.Pattern.{pattern_of}
use Rattle.session_model.specs.Session.{shortest, found}
use Rattle.session_model.specs.Session as Model
use Rattle.session_stages.specs.declared.Course.{Course}
use Rattle.session_stages.specs.declared.Stage.TheVariants as S
use Rattle.session_stages.specs.declared.Session.{Session}
use Rattle.session_stages.specs.declared.Answer.{Answer}
use Rattle.session_stages.specs.declared.Answer.TheVariants as A
use Rattle.session_stages.specs.World.{Best, world, best_of}
use Rattle.session_stages.specs.Session.{answer_of, Steps}

-- what is answered where the job is whole
asked : (s : Session) (c : Course) (a : Answer) → s.stage ≡ S.Walking c → Steps shortest [] s s a → found world (best_of (pattern_of c.job)) ≡ answer_of [] a
asked s c a e h = sym (ap (λ (o : Model.Outcome world). o.0) (rw e at h.met))

is_found : (p : Pattern) (k : ℕ) (u t : Point) → found world (best_of p) ≡ answer_of [] (A.Least k u t) → p ≡ P.Found k u t
is_found (P.Found h v w) k u t e =
    let q : ◌≡◌ {A = Best} (record { scale = h; u = v; t = w }) (record { scale = k; u = u; t = t }) = cc in
    λ i. P.Found (q i).scale (q i).u (q i).t
is_found P.Missing k u t e = absurd (let z : ◌≡◌ {A = ℕ} 0 1 = cc in omega arith)

is_missing : (p : Pattern) → found world (best_of p) ≡ answer_of [] (A.Refused NoPattern) → p ≡ P.Missing
is_missing (P.Found h v w) e = absurd (let z : ◌≡◌ {A = ℕ} 0 1 = cc in omega arith)
is_missing P.Missing e = refl

module _ (s : Session) (c : Course) (e : s.stage ≡ S.Walking c) where
  -- an answer is the pattern of the job
  pub shortest_found : (k : ℕ) (u t : Point) → Steps shortest [] s s (A.Least k u t) → pattern_of c.job ≡ P.Found k u t
  shortest_found k u t h = is_found (pattern_of c.job) k u t (asked s c (A.Least k u t) e h)

  -- refused 14: there is none
  pub shortest_missing : Steps shortest [] s s (A.Refused NoPattern) → pattern_of c.job ≡ P.Missing
  shortest_missing h = is_missing (pattern_of c.job) (asked s c (A.Refused NoPattern) e h)
