-- Calls on a session of numbers, one after another: the first gets numbers of stage 0, all zeros among them, each later one those that the call before it left; a question leaves
-- them as they are. Each link is what the contract of that call promises, and no more. So the theorems of `session` on lists of calls (`Calls` there) speak of the library's.
use Rattle.std.specs.Prelude.{◌≡◌, refl, List, [], ◌∷◌, ℕ, ℤ}
use Rattle.std.proofs.Common.{sym, ap, ap₂, ◌∙◌}
use Rattle.session_model.specs.Session.{Call, reading, handOut, rewind, clear, plain, image_of, shortest, step, answers, after, lent, early, walking}
use Rattle.session_model.specs.Session as Model
use Rattle.session_stages.specs.World.{world}
use Rattle.session_stages.specs.Session.{meaning, fresh}
use Rattle.library_numbers.specs.declared.Four.{Four}
use Rattle.library_numbers.specs.declared.State.{State}
use Rattle.library_numbers.specs.declared.Reply.{Reply}
use Rattle.library_numbers.specs.Numbers.{point_of, reply_of, stage_0}
use Rattle.library_numbers.specs.declared.Left.{Left}
use Rattle.bowujita.specs.Calls.{meant, made, Leaves, Fills, Asks}

-- a call that was made: its arguments, its answer in numbers, and the lent slice as it left it (none: [])
pub record Made : Type 0 where
  pub call : Call world
  pub reply : Reply
  pub slice : List ℤ

-- the contracts of the seven calls: the numbers found, the call, the numbers left
pub data Link : State → Made → State → Type 0 where
  read : {s : State} (r : Left) (bytes : List ℕ) → Leaves (reading bytes) s r → Link s (record { call = reading bytes; reply = r.reply; slice = [] }) r.session
  filled : {s : State} {new : List ℤ} (r : Left) (old : List ℤ) → Fills s old new r → Link s (record { call = handOut old; reply = r.reply; slice = new }) r.session
  rewound : {s : State} (r : Left) → Leaves rewind s r → Link s (record { call = rewind; reply = r.reply; slice = [] }) r.session
  cleared : {s : State} (r : Left) → Leaves clear s r → Link s (record { call = clear; reply = r.reply; slice = [] }) r.session
  has-solution : {s : State} (r : Reply) → Asks plain s r → Link s (record { call = plain; reply = r; slice = [] }) s
  has-image : {s : State} (r : Reply) (w : Four) → Asks (image_of (point_of w)) s r → Link s (record { call = image_of (point_of w); reply = r; slice = [] }) s
  least : {s : State} (r : Reply) → Asks shortest s r → Link s (record { call = shortest; reply = r; slice = [] }) s

pub data From : State → List Made → State → Type 0 where
  none : {s : State} → From s [] s
  then : {s t u : State} {m : Made} {ms : List Made} → Link s m t → From t ms u → From s (m ∷ ms) u

abbrev pub calls_of : List Made → List (Call world)
calls_of [] = []
calls_of (m ∷ ms) = m.call ∷ calls_of ms

-- a call with an answer of the model
abbrev pub slice_by : Call world → Model.Answer world → List ℤ
slice_by (reading b) a = []
slice_by (handOut l) a = lent world a l
slice_by rewind a = []
slice_by clear a = []
slice_by plain a = []
slice_by (image_of v) a = []
slice_by shortest a = []

abbrev pub made_by : Call world → Model.Answer world → Made
made_by c a = record { call = c; reply = reply_of a; slice = slice_by c a }

abbrev pub each : List (Call world) → List (Model.Answer world) → List Made
each [] l = []
each (c ∷ cs) [] = []
each (c ∷ cs) (a ∷ l) = made_by c a ∷ each cs l

-- ---- a run is a list of steps of the model
link_made : {s t : State} {m : Made} → Link s m t → m ≡ made_by m.call (made m.call s).0
link_made (read r b h) = λ i. record { call = reading b; reply = h.reply i; slice = [] }
link_made (filled r old h) = λ i. record { call = handOut old; reply = h.left.reply i; slice = h.slice i }
link_made (rewound r h) = λ i. record { call = rewind; reply = h.reply i; slice = [] }
link_made (cleared r h) = λ i. record { call = clear; reply = h.reply i; slice = [] }
link_made (has-solution r h) = λ i. record { call = plain; reply = h i; slice = [] }
link_made (has-image r w h) = λ i. record { call = image_of (point_of w); reply = h i; slice = [] }
link_made (least r h) = λ i. record { call = shortest; reply = h i; slice = [] }

-- a question changes nothing
plain-same : (z : Model.Session world) → (step world plain z).1 ≡ z
plain-same (early p) = refl
plain-same (walking j w o) = refl

image-same : (v : _) (z : Model.Session world) → (step world (image_of v) z).1 ≡ z
image-same v (early p) = refl
image-same v (walking j w o) = refl

shortest_same : (z : Model.Session world) → (step world shortest z).1 ≡ z
shortest_same (early p) = refl
shortest_same (walking j w o) = refl

link_meant : {s t : State} {m : Made} → Link s m t → meant t ≡ (made m.call s).1
link_meant (read r b h) = h.session
link_meant (filled r old h) = h.left.session
link_meant (rewound r h) = h.session
link_meant (cleared r h) = h.session
link_meant {s} (has-solution r h) = sym (plain-same (meant s))
link_meant {s} (has-image r w h) = sym (image-same (point_of w) (meant s))
link_meant {s} (least r h) = sym (shortest_same (meant s))

-- from a session of the model on
abbrev each_from : List (Call world) → Model.Session world → List Made
each_from cs z = each cs (answers world z cs)

from_each : {s t : State} {ms : List Made} → From s ms t → ms ≡ each_from (calls_of ms) (meant s)
from_each none = refl
from_each (then {ms} k r) = ap₂ ◌∷◌ (link_made k) (from_each r ∙ ap (each_from (calls_of ms)) (link_meant k))

from-after : {s t : State} {ms : List Made} → From s ms t → meant t ≡ after world (meant s) (calls_of ms)
from-after none = refl
from-after (then {ms} k r) = from-after r ∙ ap (λ (z : Model.Session world). after world z (calls_of ms)) (link_meant k)

meant-fresh : (s : State) → s.stage ≡ 0 → meant s ≡ meaning fresh
meant-fresh s e = rw (stage_0 s e) refl

-- every answer to a list of the library's calls, in every field, every slice and the session that is left are those of the model's calls on a fresh session
module _ {s t : State} {ms : List Made} (e : s.stage ≡ 0) (r : From s ms t) where
  pub run-each : ms ≡ each (calls_of ms) (answers world (meaning fresh) (calls_of ms))
  run-each = from_each r ∙ ap (each_from (calls_of ms)) (meant-fresh s e)

  pub run-after : meant t ≡ after world (meaning fresh) (calls_of ms)
  run-after = from-after r ∙ ap (λ (z : Model.Session world). after world z (calls_of ms)) (meant-fresh s e)
