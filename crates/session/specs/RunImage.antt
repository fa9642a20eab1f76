-- What a session remembers, and the image question, for every run of the code's calls (SPEC, "Operators" and "Questions"): the session remembers the last operator that a caller had
-- accepted, and the question says yes if and only if w is what that operator makes of a selected solution.
use Rattle.std.specs.Prelude.{◌≡◌, Bool, true, List, [], ◌↔◌, Ok}
use Rattle.std.proofs.Common.{sym, ap, ◌∙◌}
use Rattle.ring.specs.declared.Point.{Point}
use Rattle.region.specs.declared.Job.{Job}
use Rattle.region.specs.Selection.{listed-parts, is_listed}
use Rattle.operator.specs.declared.Operator.{Operator}
use Rattle.operator.specs.Operator.{identity, check_of, image_of}
use Rattle.session_model.specs.Session as Model
use Rattle.session_model.specs.Remembered.{operator_of, last_accepted}
use Rattle.session_stages.specs.declared.Course.{Course}
use Rattle.session_stages.specs.declared.Stage.TheVariants as S
use Rattle.session_stages.specs.declared.Session.{Session}
use Rattle.session_stages.specs.declared.Answer.TheVariants as A
use Rattle.session_stages.specs.World.{world, is_image}
use Rattle.session_stages.specs.Session.{meaning, Steps}
use Rattle.session_images.specs.Image.{Sent, image-yes}
use Rattle.session.specs.lemmas.Calls.{session-remembers}
use Rattle.session.specs.lemmas.Remembered.{remembered-special}
use Rattle.session.specs.Run.{Made, Run, calls_of, exchanges_of, from-after, from-exchanges}
use Rattle.session.specs.RunWalk.{SelectedSolution}

-- the last operator that was accepted since the last clearing, the identity if there is none
abbrev pub last_operator : List Made → Operator
last_operator ms = last_accepted world identity (exchanges_of ms)

pub run-remembers : {ms : List Made} {t : Session} → Run ms t → operator_of world (meaning t) ≡ last_operator ms
run-remembers {ms} r = rw (from-exchanges r, from-after r) (session-remembers (calls_of ms))

-- it passed the test
pub run-special : {ms : List Made} {t : Session} → Run ms t → check_of (last_operator ms) ≡ (Ok tt)
run-special {ms} r = ap check_of (sym (run-remembers r)) ∙ rw (from-after r) (remembered-special (calls_of ms))

-- a point that solves the job and is selected, which the operator sends to w
pub record ImageOf (j : Job) (g : Operator) (w : Point) : Type 0 where
  pub from : Point
  pub solution : SelectedSolution j from
  pub image : image_of g from ≡ w

sent_image : (j : Job) (g : Operator) (w : Point) → Sent j g w ↔ ImageOf j g w
sent_image j g w = (
  (λ s. let p = listed-parts j s.from s.lists in record { from = s.from; solution = (p.1, p.0); image = s.image }),
  (λ i. record { from = i.from; lists = is_listed j i.from i.solution.1 i.solution.0; image = i.image }),
)

-- a run whose job is whole, and then the image question
pub run-image : {ms : List Made} {t : Session} {c : Course} {b : Bool} {w : Point} → Run ms t → t.stage ≡ S.Walking c → Steps (Model.image_of w) [] t t (A.Says b)
    → (b ≡ true) ↔ ImageOf c.job (last_operator ms) w
run-image {ms} {c} {b} {w} r e h =
    let o : c.operator ≡ last_operator ms = rw e at (run-remembers r) in
    let says : b ≡ is_image c.job c.operator w = cc (ap (λ (x : Model.Outcome world). x.0) (rw e at h.met)) in
    let q : b ≡ is_image c.job (last_operator ms) w = says ∙ ap (λ (g : Operator). is_image c.job g w) o in
    let y = image-yes c.job (last_operator ms) w (run-special r) in
    let i = sent_image c.job (last_operator ms) w in
    ((λ f. i.0 (y.0 (sym q ∙ f))), (λ k. q ∙ y.1 (i.1 k)))
