-- What plain numbers mean as a session of trays: SPEC, "Library". Every value of the struct has a meaning. And an answer as plain numbers.
use Rattle.std.specs.Prelude.{◌≡◌, false, cond, List, [], map, eqb, ℤ}
use Rattle.std.proofs.Math.Path.{refl}
use Rattle.std.proofs.Common.{ne_eqb}
use Rattle.tray_model.specs.Session.{refused, taken, handed, done, early, walking}
use Rattle.tray_model.specs.Session as Model
use Rattle.tray_list.specs.declared.Target.{Target}
use Rattle.tray_list.specs.declared.Tray.{Tray}
use Rattle.tray.specs.declared.Stage.{Stage}
use Rattle.tray.specs.declared.Stage.TheVariants as S
use Rattle.tray.specs.declared.Session.{Session}
use Rattle.tray.specs.declared.Answer.{Answer}
use Rattle.tray.specs.declared.Answer.TheVariants as A
use Rattle.tray.specs.Session.{world, meaning, answer_of}
use Rattle.library_numbers.specs.declared.Shape.{Shape}
use Rattle.library_numbers.specs.declared.Reply.{Reply}
use Rattle.library_numbers.specs.Numbers.{is_set, region_of, point_of, spot_of, told}
use Rattle.library_trays.specs.declared.TrayState.{TrayState}

abbrev pub target_of : Shape → Target
target_of s = record { region = region_of s }

pub target_is : (s : Shape) {t : Target} → region_of s ≡ t.region → target_of s ≡ t
target_is s e = λ i. record { region = e i }

abbrev pub targets_of : List Shape → List Target
targets_of l = map target_of l

abbrev pub tray_of : TrayState → Tray
tray_of s = record { k = s.k; all = is_set s.all; b = region_of s.b; count = s.count; targets = targets_of s.a }

-- without a tray where `taken` is 0
unfoldable pub stage_of : TrayState → Stage
stage_of s = cond (eqb s.taken 0) S.Early (S.Walking (spot_of s.ended (point_of s.spot)))

abbrev pub session_of : TrayState → Session
session_of s = record { stage = stage_of s; tray = tray_of s }

-- in the model
abbrev pub meant : TrayState → Model.Session world
meant s = meaning (session_of s)

-- an answer: kind, refusal, flag and count as those of a session
abbrev pub reply_of : Model.Answer world → Reply
reply_of (refused n) = told 0 n false 0
reply_of (taken n) = told 1 0 false n
reply_of (handed n e l) = told 2 0 e n
reply_of done = told 3 0 false 0

-- ---- by the flag
module _ (s : TrayState) where
  pub stage_none : s.taken ≡ 0 → stage_of s ≡ S.Early
  unfolding stage_of
  stage_none e = rw e refl

  pub stage_some : (s.taken ≡ 0 → ⊥) → stage_of s ≡ S.Walking (spot_of s.ended (point_of s.spot))
  unfolding stage_of
  stage_some e = rw (ne_eqb _ 0 e) refl

  -- all zeros among them
  pub meant-none : s.taken ≡ 0 → meant s ≡ early
  meant-none e = rw (stage_none e) refl

-- the numbers of an answer do not hold the lent slice
pub reply_any : (a : Answer) (l : List ℤ) → reply_of (answer_of [] a) ≡ reply_of (answer_of l a)
reply_any (A.Taken n) l = refl
reply_any (A.Handed n e) l = refl
reply_any A.Done l = refl
reply_any (A.Refused f) l = refl
