-- What a call on a session of trays of plain numbers does: one step of the model in `tray_model`.
use Rattle.std.specs.Prelude.{◌≡◌, List, [], ℤ}
use Rattle.std.proofs.Common.{ap, ◌∙◌}
use Rattle.tray_model.specs.Session.{Call, handOut, step, lent}
use Rattle.tray_model.specs.Session as Model
use Rattle.tray.specs.declared.Session.{Session}
use Rattle.tray.specs.declared.Outcome.{Outcome}
use Rattle.tray.specs.Session.{world, meaning, answer_of, outcome, Steps, Hands}
use Rattle.library_trays.specs.declared.TrayState.{TrayState}
use Rattle.library_trays.specs.declared.TrayLeft.{TrayLeft}
use Rattle.library_trays.specs.Numbers.{session_of, meant, reply_of, reply_any}

abbrev pub made : Call world → TrayState → Model.Outcome world
made c s = step world c (meant s)

-- a call that finds s answers the numbers of the model's answer, and leaves its session
pub record Leaves (c : Call world) (s : TrayState) (r : TrayLeft) : Type 0 where
  pub reply : r.reply ≡ reply_of (made c s).0
  pub session : meant r.session ≡ (made c s).1

-- a hand-out, with the slice that it leaves
pub record Fills (s : TrayState) (old new : List ℤ) (r : TrayLeft) : Type 0 where
  pub left : Leaves (handOut old) s r
  pub slice : new ≡ lent world (made (handOut old) s).0 old

-- ---- by way of the session
pub record LeftOf (o : Outcome) (r : TrayLeft) : Type 0 where
  pub session : meant r.session ≡ meaning o.session
  pub reply : r.reply ≡ reply_of (answer_of [] o.answer)

module _ {x : Session} {o : Outcome} {r : TrayLeft} {s : TrayState} (h : LeftOf o r) (e : x ≡ session_of s) where
  pub left-steps : {c : Call world} (l : List ℤ) → Steps c l x o.session o.answer → Leaves c s r
  left-steps {c} l m =
      let n : outcome l o.session o.answer ≡ made c s = m ∙ ap (λ (y : Session). step world c (meaning y)) e in
      record {
        reply = h.reply ∙ reply_any o.answer l ∙ ap (λ (q : Model.Outcome world). reply_of q.0) n;
        session = h.session ∙ ap (λ (q : Model.Outcome world). q.1) n;
      }

  pub left-hands : (old new : List ℤ) → Hands x old new o.session o.answer → Fills s old new r
  left-hands old new g =
      record { left = left-steps new g.met; slice = g.slice ∙ ap (λ (y : Session). lent world (step world (handOut old) (meaning y)).0 old) e }
