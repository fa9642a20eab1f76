-- Calls of the code, one after another: the first gets a session without a tray (`start`), each later one the session that the call before it left. Each link is what
-- the contract of that call promises, and no more.
use Rattle.std.specs.Prelude.{◌≡◌, refl, List, [], ◌∷◌, ℤ}
use Rattle.std.proofs.Common.{ap, ap₂, ◌∙◌}
use Rattle.tray_model.specs.Session.{Call, taking, handOut, rewind, clear, step, answers, after, early}
use Rattle.tray_model.specs.Session as Model
use Rattle.tray_model.specs.Rules.{ruled, begin}
use Rattle.tray_taking.specs.Taking.{Given}
use Rattle.tray.specs.declared.Session.{Session}
use Rattle.tray.specs.declared.Answer.{Answer}
use Rattle.tray.specs.Session.{world, meaning, fresh, answer_of, Steps, Hands}
use Rattle.tray.specs.lemmas.Calls.{session-rules}

-- a call that was made: its arguments, what it answered, and the lent slice as it left it (none: [])
pub record Made : Type 0 where
  pub call : Call world
  pub answer : Answer
  pub slice : List ℤ

-- the contracts of `take`, `hand_out`, `rewind`, `clear`: the session found, the call, the session left
pub data Link : Session → Made → Session → Type 0 where
  took : {s t : Session} {a : Answer} (g : Given) → Steps (taking g) [] s t a → Link s (record { call = taking g; answer = a; slice = [] }) t
  hand-out : {s t : Session} {a : Answer} {new : List ℤ} (old : List ℤ) → Hands s old new t a → Link s (record { call = handOut old; answer = a; slice = new }) t
  rewound : {s t : Session} {a : Answer} → Steps rewind [] s t a → Link s (record { call = rewind; answer = a; slice = [] }) t
  cleared : {s t : Session} {a : Answer} → Steps clear [] s t a → Link s (record { call = clear; answer = a; slice = [] }) t

-- calls from a session on, and the session that the last one left
pub data From : Session → List Made → Session → Type 0 where
  none : {s : Session} → From s [] s
  then : {s t u : Session} {m : Made} {ms : List Made} → Link s m t → From t ms u → From s (m ∷ ms) u

abbrev pub calls_of : List Made → List (Call world)
calls_of [] = []
calls_of (m ∷ ms) = m.call ∷ calls_of ms

abbrev pub answered : Made → Model.Answer world
answered m = answer_of m.slice m.answer

abbrev pub answers_of : List Made → List (Model.Answer world)
answers_of [] = []
answers_of (m ∷ ms) = answered m ∷ answers_of ms

-- ---- a run is a list of steps of the model
pub link_steps : {s t : Session} {m : Made} → Link s m t → ◌≡◌ {A = Model.Outcome world} (answered m, meaning t) (step world m.call (meaning s))
link_steps (took g e) = e
link_steps (hand-out old g) = g.met
link_steps (rewound e) = e
link_steps (cleared e) = e

module _ {s t : Session} {m : Made} (k : Link s m t) where
  pub link_answer : answered m ≡ (step world m.call (meaning s)).0
  link_answer = ap (λ (o : Model.Outcome world). o.0) (link_steps k)

  pub link_session : meaning t ≡ (step world m.call (meaning s)).1
  link_session = ap (λ (o : Model.Outcome world). o.1) (link_steps k)

pub from-answers : {s t : Session} {ms : List Made} → From s ms t → answers_of ms ≡ answers world (meaning s) (calls_of ms)
from-answers none = refl
from-answers (then {m} {ms} k r) = ap₂ ◌∷◌ (link_answer k) (from-answers r ∙ ap (λ (z : Model.Session world). answers world z (calls_of ms)) (link_session k))

pub from-after : {s t : Session} {ms : List Made} → From s ms t → meaning t ≡ after world (meaning s) (calls_of ms)
from-after none = refl
from-after (then {ms} k r) = from-after r ∙ ap (λ (z : Model.Session world). after world z (calls_of ms)) (link_session k)

-- what the code answers to a list of calls is what the rules give
pub run-rules : {ms : List Made} {t : Session} → From fresh ms t → answers_of ms ≡ ruled world (begin world) (calls_of ms)
run-rules {ms} r = from-answers r ∙ session-rules (calls_of ms)
