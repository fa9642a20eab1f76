-- Calls of the code on the bench's session, one after another, from a fresh one: each link is what the contract of that call promises, and no more. A run of the bench's calls is a run
-- of its session's, so that demand 3's theorems (`RunCalls`, `RunWalk` of `session`) hold of it.
use Rattle.std.specs.Prelude.{◌≡◌, refl, List, [], ◌∷◌, ℕ, ℤ}
use Rattle.ring.specs.declared.Point.{Point}
use Rattle.session_model.specs.Session.{reading, handOut, rewind, clear, plain, image_of, shortest}
use Rattle.session.specs.Run.{Made, Link, From, answered}
use Rattle.session.specs.Run as S
use Rattle.session_stages.specs.declared.Answer.{Answer}
use Rattle.session_stages.specs.Session.{meaning, scale_of, Steps}
use Rattle.session_tallying.specs.declared.Tallied.{Tallied}
use Rattle.session_tallying.specs.Tallied.{fresh, tally_after, Moves, Deals}

-- the contracts of `read`, `hand_out`, `rewind`, `clear`, `has_solution`, `has_image`, `shortest`: what is found, the call, what is left
pub data TallyLink : Tallied → Made → Tallied → Type 0 where
  read : {b d : Tallied} {a : Answer} (bytes : List ℕ) → Moves (reading bytes) [] b d a → TallyLink b (record { call = reading bytes; answer = a; slice = [] }) d
  hand-out : {b d : Tallied} {a : Answer} {new : List ℤ} (old : List ℤ) → Deals b old new d a → TallyLink b (record { call = handOut old; answer = a; slice = new }) d
  rewound : {b d : Tallied} {a : Answer} → Moves rewind [] b d a → TallyLink b (record { call = rewind; answer = a; slice = [] }) d
  cleared : {b d : Tallied} {a : Answer} → Moves clear [] b d a → TallyLink b (record { call = clear; answer = a; slice = [] }) d
  has-solution : {b : Tallied} {a : Answer} → Steps plain [] b.session b.session a → TallyLink b (record { call = plain; answer = a; slice = [] }) b
  has-image : {b : Tallied} {a : Answer} (w : Point) → Steps (image_of w) [] b.session b.session a → TallyLink b (record { call = image_of w; answer = a; slice = [] }) b
  least : {b : Tallied} {a : Answer} → Steps shortest [] b.session b.session a → TallyLink b (record { call = shortest; answer = a; slice = [] }) b

pub data TallyFrom : Tallied → List Made → Tallied → Type 0 where
  none : {b : Tallied} → TallyFrom b [] b
  then : {b d f : Tallied} {m : Made} {ms : List Made} → TallyLink b m d → TallyFrom d ms f → TallyFrom b (m ∷ ms) f

abbrev pub TallyRun : List Made → Tallied → Type 0
TallyRun ms b = TallyFrom fresh ms b

-- ---- of its session
pub session-link : {b d : Tallied} {m : Made} → TallyLink b m d → Link b.session m d.session
session-link (read bytes k) = S.read bytes k.met
session-link (hand-out old k) = S.hand-out old k.met
session-link (rewound k) = S.rewound k.met
session-link (cleared k) = S.cleared k.met
session-link (has-solution k) = S.has-solution k
session-link (has-image w k) = S.has-image w k
session-link (least k) = S.least k

pub session-from : {b d : Tallied} {ms : List Made} → TallyFrom b ms d → From b.session ms d.session
session-from none = S.none
session-from (then k r) = S.then (session-link k) (session-from r)

pub session-run : {ms : List Made} {b : Tallied} → TallyRun ms b → S.Run ms b.session
session-run r = session-from r

-- ---- of its counts
pub link_tally : {b d : Tallied} {m : Made} → TallyLink b m d → d.tally ≡ tally_after m.call (answered m) (scale_of (meaning b.session)) b.tally
link_tally (read bytes k) = k.tally
link_tally (hand-out old k) = k.tally
link_tally (rewound k) = k.tally
link_tally (cleared k) = k.tally
link_tally (has-solution k) = refl
link_tally (has-image w k) = refl
link_tally (least k) = refl
