-- What a session of trays and its answers mean, in the model of `tray_model`. Every value of the type has a meaning.
use Rattle.std.specs.Prelude.{◌≡◌, refl, Bool, List, [], ℕ, ◌/◌, ℤ, length, drop, Option, Some, None, Result, Ok, Err}
use Rattle.std.proofs.Common.{sym, ap, ◌∙◌}
use Rattle.ring.specs.declared.Point.{Point}
use Rattle.ranks.specs.Rest.{at, is_ended, left_at}
use Rattle.ranks.proofs.Rest.{ended-nil}
use Rattle.ranks.specs.Rank.{top}
use Rattle.ranks.specs.Handed.{Gave}
use Rattle.cuts.specs.Digits.{span}
use Rattle.walk_list.specs.Walk.{spot_of}
use Rattle.tray_model.specs.Session.{World, Call, handOut, refused, taken, handed, done, early, walking, given, step, lent}
use Rattle.tray_model.specs.Session as Model
use Rattle.tray_list.specs.declared.Tray.{Tray}
use Rattle.tray_list.specs.Tray.{any_at, five_of}
use Rattle.record_kinds.specs.declared.Refusal.TheVariants.{Ended}
use Rattle.tray_taking.specs.declared.Refusal.{Refusal}
use Rattle.tray_taking.specs.declared.Refusal.TheVariants as F
use Rattle.tray_taking.specs.declared.Answer as T
use Rattle.tray_taking.specs.Taking.{Given, takes, take_of, number_of, no_tray}
use Rattle.tray.specs.declared.Stage.{Stage}
use Rattle.tray.specs.declared.Stage.TheVariants as S
use Rattle.tray.specs.declared.Session.{Session}
use Rattle.tray.specs.declared.Answer.{Answer}
use Rattle.tray.specs.declared.Answer.TheVariants as A

-- trays, as `tray_model` asks for them: a point is five numbers
abbrev pub world : World
world = record {
  Tray = Tray;
  Given = Given;
  takes = takes;
  test = any_at;
  top = top span;
  width = 5;
  coords = five_of;
  wide = λ t r. refl;
}

abbrev pub stage_of : Tray → Stage → Model.Session world
stage_of t S.Early = early
stage_of t (S.Walking p) = walking t (spot_of p)

abbrev pub meaning : Session → Model.Session world
meaning s = stage_of s.tray s.stage

abbrev pub fresh : Session
fresh = record { stage = S.Early; tray = no_tray }

-- answers, with the number of each refusal; a hand-out's with the lent slice as it is then
abbrev pub answer_of : List ℤ → Answer → Model.Answer world
answer_of l (A.Taken n) = taken n
answer_of l (A.Handed n e) = handed n e l
answer_of l A.Done = done
answer_of l (A.Refused f) = refused (number_of f)

abbrev pub outcome : List ℤ → Session → Answer → Model.Outcome world
outcome l s a = (answer_of l a, meaning s)

-- a call that finds s, leaves t and answers a, with the lent slice l (none: []), is a step of the model
abbrev pub Steps : Call world → List ℤ → Session → Session → Answer → Type 0
Steps c l s t a = outcome l t a ≡ step world c (meaning s)

-- a take of what `tray_taking::take` read
abbrev pub Takes : Session → T.Answer → Session → Answer → Type 0
Takes s g t a = outcome [] t a ≡ Model.begun world (meaning s) (take_of g.verdict g.tray)

-- the same with the slice that it leaves
pub record Gives (o : Model.Outcome world) (old new : List ℤ) (t : Session) (a : Answer) : Type 0 where
  pub met : outcome new t a ≡ o
  pub slice : new ≡ lent world o.0 old

abbrev pub Hands : Session → List ℤ → List ℤ → Session → Answer → Type 0
Hands s old new t a = Gives (step world (handOut old) (meaning s)) old new t a

-- a hand-out from a spot on
pub gave_gives : (t : Tray) (from spot : Option Point) (old new : List ℤ) (count : ℕ) (e : Bool)
    → Gave (five_of t) 5 (left_at (any_at t) (top span) (spot_of from)) old (length old / 5) count new (spot_of spot) → e ≡ is_ended (spot_of spot)
    → Gives (given world t old (left_at (any_at t) (top span) (spot_of from))) old new (record { stage = S.Walking spot; tray = t }) (A.Handed count e)
gave_gives t from spot old new count e g h =
    let k = h ∙ ap is_ended g.place ∙ ended-nil (drop (length old / 5) (left_at (any_at t) (top span) (spot_of from))) in
    record { met = λ i. (handed (g.count i) (k i) (g.slice i), walking t (g.place i)); slice = g.slice }

pub spot-hands : (t : Tray) (p : Option Point) (v : Point) (old : List ℤ) → p ≡ Some v
    → step world (handOut old) (walking t (spot_of p)) ≡ given world t old (left_at (any_at t) (top span) (spot_of p))
spot-hands t p v old e = rw e refl

-- a take: the tray begins, or nothing changes
module _ (m : Model.Session world) (t : Tray) (x : Model.Taking Tray) (v : Result Unit Refusal) (h : take_of v t ≡ x) where
  pub took_taken : v ≡ (Ok tt) → (taken t.count, walking t (at 0)) ≡ Model.begun world m x
  took_taken e = ap (Model.begun world m) (ap (λ w. take_of w t) (sym e) ∙ h)

  pub took_refused : (f : Refusal) → v ≡ Err f → (refused (number_of f), m) ≡ Model.begun world m x
  took_refused f e = ap (Model.begun world m) (ap (λ w. take_of w t) (sym e) ∙ h)

-- past the end
pub end-hands : (s : Session) (old : List ℤ) → s.stage ≡ S.Walking None → Gives (step world (handOut old) (meaning s)) old old s (A.Refused (F.Record Ended))
end-hands s old e = record { met = rw e refl; slice = rw e refl }
