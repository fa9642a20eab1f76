-- Calls of the code, one after another: the first gets a fresh session (`start`), each later one the session that the call before it left. Each link is what
-- the contract of that call promises, and no more.
use Rattle.std.specs.Prelude.{◌≡◌, refl, List, [], ◌∷◌, ℕ, ℤ}
use Rattle.std.proofs.Common.{ap, ap₂, ◌∙◌}
use Rattle.ring.specs.declared.Point.{Point}
use Rattle.session_model.specs.Session.{Call, reading, handOut, rewind, clear, plain, image_of, shortest, step, answers, after}
use Rattle.session_model.specs.Session as Model
use Rattle.session_model.specs.Since.{Exchange, exchanges, since_after}
use Rattle.session_stages.specs.declared.Session.{Session}
use Rattle.session_stages.specs.declared.Answer.{Answer}
use Rattle.session_stages.specs.World.{world}
use Rattle.session_stages.specs.Meaning.{Fits}
use Rattle.session_stages.specs.Session.{meaning, fresh, answer_of, Steps, Hands}

-- a call that was made: its arguments, what it answered, and the lent slice as it left it (none: [])
pub record Made : Type 0 where
  pub call : Call world
  pub answer : Answer
  pub slice : List ℤ

-- the contracts of `read`, `hand_out`, `rewind`, `clear`, `has_solution`, `has_image`, `shortest`: the session found, the call, the session left
pub data Link : Session → Made → Session → Type 0 where
  read : {s t : Session} {a : Answer} (bytes : List ℕ) → Steps (reading bytes) [] s t a → Link s (record { call = reading bytes; answer = a; slice = [] }) t
  hand-out : {s t : Session} {a : Answer} {new : List ℤ} (old : List ℤ) → Hands s old new t a → Link s (record { call = handOut old; answer = a; slice = new }) t
  rewound : {s t : Session} {a : Answer} → Steps rewind [] s t a → Link s (record { call = rewind; answer = a; slice = [] }) t
  cleared : {s t : Session} {a : Answer} → Steps clear [] s t a → Link s (record { call = clear; answer = a; slice = [] }) t
  has-solution : {s : Session} {a : Answer} → Steps plain [] s s a → Link s (record { call = plain; answer = a; slice = [] }) s
  has-image : {s : Session} {a : Answer} (w : Point) → Steps (image_of w) [] s s a → Link s (record { call = image_of w; answer = a; slice = [] }) s
  least : {s : Session} {a : Answer} → Steps shortest [] s s a → Link s (record { call = shortest; answer = a; slice = [] }) s

-- calls from a session on, and the session that the last one left
pub data From : Session → List Made → Session → Type 0 where
  none : {s : Session} → From s [] s
  then : {s t u : Session} {m : Made} {ms : List Made} → Link s m t → From t ms u → From s (m ∷ ms) u

abbrev pub Run : List Made → Session → Type 0
Run ms t = From fresh ms t

-- the calls leave sessions of machine numbers (second promise of `read`, `hand_out` and `rewind`; `clear` leaves a fresh one, the questions the one they find)
abbrev pub Machine : {s u : Session} {ms : List Made} → From s ms u → Type 0
Machine none = Unit {0}
Machine (then {t} k r) = Fits t.stage × Machine r

pub machine_fits : {s t : Session} {ms : List Made} (r : From s ms t) → Fits s.stage → Machine r → Fits t.stage
machine_fits none f m = f
machine_fits (then k r) f m = machine_fits r m.0 m.1

-- what was asked, and what was answered, with the number of each refusal (SPEC, "Refusals")
abbrev pub calls_of : List Made → List (Call world)
calls_of [] = []
calls_of (m ∷ ms) = m.call ∷ calls_of ms

abbrev pub answered : Made → Model.Answer world
answered m = answer_of m.slice m.answer

abbrev pub answers_of : List Made → List (Model.Answer world)
answers_of [] = []
answers_of (m ∷ ms) = answered m ∷ answers_of ms

abbrev pub exchanges_of : List Made → List (Exchange world)
exchanges_of [] = []
exchanges_of (m ∷ ms) = (m.call, answered m) ∷ exchanges_of ms

-- the calls since the last rewind or clearing that was not refused
abbrev pub since_of : List Made → List (Exchange world)
since_of ms = since_after world [] (exchanges_of ms)

-- ---- a run is a list of steps of the model
pub link_steps : {s t : Session} {m : Made} → Link s m t → ◌≡◌ {A = Model.Outcome world} (answered m, meaning t) (step world m.call (meaning s))
link_steps (read bytes e) = e.met
link_steps (hand-out old g) = g.met
link_steps (rewound e) = e.met
link_steps (cleared e) = e.met
link_steps (has-solution e) = e.met
link_steps (has-image w e) = e.met
link_steps (least e) = e.met

module _ {s t : Session} {m : Made} (k : Link s m t) where
  pub link_answer : answered m ≡ (step world m.call (meaning s)).0
  link_answer = ap (λ (o : Model.Outcome world). o.0) (link_steps k)

  pub link_session : meaning t ≡ (step world m.call (meaning s)).1
  link_session = ap (λ (o : Model.Outcome world). o.1) (link_steps k)

pub from-answers : {s t : Session} {ms : List Made} → From s ms t → answers_of ms ≡ answers world (meaning s) (calls_of ms)
from-answers none = refl
from-answers (then {m} {ms} k r) = ap₂ ◌∷◌ (link_answer k) (from-answers r ∙ ap (λ (z : Model.Session world). answers world z (calls_of ms)) (link_session k))

pub from-after : {s t : Session} {ms : List Made} → From s ms t → meaning t ≡ after world (meaning s) (calls_of ms)
from-after none = refl
from-after (then {ms} k r) = from-after r ∙ ap (λ (z : Model.Session world). after world z (calls_of ms)) (link_session k)

pub from-exchanges : {s t : Session} {ms : List Made} → From s ms t → exchanges_of ms ≡ exchanges world (meaning s) (calls_of ms)
from-exchanges none = refl
from-exchanges (then {m} {ms} k r) =
    ap₂ ◌∷◌ (ap (λ (a : Model.Answer world). (m.call, a)) (link_answer k)) (from-exchanges r ∙ ap (λ (z : Model.Session world). exchanges world z (calls_of ms)) (link_session k))
