-- Calls on numbers, one after another: the first gets numbers without a tray, all zeros among them, each later one those that the call before it left. Each link is what the
-- contract of that call promises, and no more.
use Rattle.std.specs.Prelude.{◌≡◌, refl, List, [], ◌∷◌, ℤ}
use Rattle.std.proofs.Common.{ap, ap₂, ◌∙◌}
use Rattle.tray_model.specs.Session.{Call, taking, handOut, rewind, clear, answers, lent}
use Rattle.tray_model.specs.Session as Model
use Rattle.tray_model.specs.Rules.{ruled, begin}
use Rattle.tray_taking.specs.Taking.{Given}
use Rattle.tray.specs.Session.{world}
use Rattle.tray.specs.lemmas.Calls.{session-rules}
use Rattle.library_numbers.specs.declared.Reply.{Reply}
use Rattle.library_trays.specs.declared.TrayState.{TrayState}
use Rattle.library_trays.specs.declared.TrayLeft.{TrayLeft}
use Rattle.library_trays.specs.Numbers.{meant, meant-none, reply_of}
use Rattle.library_trays.specs.Calls.{made, Leaves, Fills}

-- a call that was made: its arguments, its answer in numbers, and the lent slice as it left it (none: [])
pub record Made : Type 0 where
  pub call : Call world
  pub reply : Reply
  pub slice : List ℤ

-- the contracts of `take`, `hand_out`, `rewind`, `clear`: the numbers found, the call, the numbers left
pub data Link : TrayState → Made → TrayState → Type 0 where
  took : {s : TrayState} (r : TrayLeft) (g : Given) → Leaves (taking g) s r → Link s (record { call = taking g; reply = r.reply; slice = [] }) r.session
  filled : {s : TrayState} {new : List ℤ} (r : TrayLeft) (old : List ℤ) → Fills s old new r → Link s (record { call = handOut old; reply = r.reply; slice = new }) r.session
  rewound : {s : TrayState} (r : TrayLeft) → Leaves rewind s r → Link s (record { call = rewind; reply = r.reply; slice = [] }) r.session
  cleared : {s : TrayState} (r : TrayLeft) → Leaves clear s r → Link s (record { call = clear; reply = r.reply; slice = [] }) r.session

pub data From : TrayState → List Made → TrayState → Type 0 where
  none : {s : TrayState} → From s [] s
  then : {s t u : TrayState} {m : Made} {ms : List Made} → Link s m t → From t ms u → From s (m ∷ ms) u

abbrev pub calls_of : List Made → List (Call world)
calls_of [] = []
calls_of (m ∷ ms) = m.call ∷ calls_of ms

-- a call with an answer of the model
abbrev pub slice_by : Call world → Model.Answer world → List ℤ
slice_by (taking g) a = []
slice_by (handOut l) a = lent world a l
slice_by rewind a = []
slice_by clear a = []

abbrev pub made_by : Call world → Model.Answer world → Made
made_by c a = record { call = c; reply = reply_of a; slice = slice_by c a }

abbrev pub each : List (Call world) → List (Model.Answer world) → List Made
each [] l = []
each (c ∷ cs) [] = []
each (c ∷ cs) (a ∷ l) = made_by c a ∷ each cs l

-- ---- a run is a list of steps of the model
link_made : {s t : TrayState} {m : Made} → Link s m t → m ≡ made_by m.call (made m.call s).0
link_made (took r g h) = λ i. record { call = taking g; reply = h.reply i; slice = [] }
link_made (filled r old h) = λ i. record { call = handOut old; reply = h.left.reply i; slice = h.slice i }
link_made (rewound r h) = λ i. record { call = rewind; reply = h.reply i; slice = [] }
link_made (cleared r h) = λ i. record { call = clear; reply = h.reply i; slice = [] }

link_meant : {s t : TrayState} {m : Made} → Link s m t → meant t ≡ (made m.call s).1
link_meant (took r g h) = h.session
link_meant (filled r old h) = h.left.session
link_meant (rewound r h) = h.session
link_meant (cleared r h) = h.session

-- from a session of the model on
abbrev each_from : List (Call world) → Model.Session world → List Made
each_from cs z = each cs (answers world z cs)

from_each : {s t : TrayState} {ms : List Made} → From s ms t → ms ≡ each_from (calls_of ms) (meant s)
from_each none = refl
from_each (then {ms} k r) = ap₂ ◌∷◌ (link_made k) (from_each r ∙ ap (each_from (calls_of ms)) (link_meant k))

-- every answer to a list of calls on numbers, and every slice, is that of the rules, from the calls' arguments alone
pub run-rules : {s t : TrayState} {ms : List Made} → s.taken ≡ 0 → From s ms t → ms ≡ each (calls_of ms) (ruled world (begin world) (calls_of ms))
run-rules {s} {ms} e r = from_each r ∙ ap (each_from (calls_of ms)) (meant-none s e) ∙ ap (each (calls_of ms)) (session-rules (calls_of ms))
