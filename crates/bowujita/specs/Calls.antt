-- What a call on a session of plain numbers does: one step of the model in `session_model`, and a change of the counts.
use Rattle.std.specs.Prelude.{◌≡◌, List, [], ℤ}
use Rattle.std.proofs.Common.{ap, ◌∙◌}
use Rattle.session_model.specs.Session.{Call, handOut, image_of, step, lent}
use Rattle.session_model.specs.Session as Model
use Rattle.ring.specs.declared.Point.{Point}
use Rattle.session_stages.specs.declared.Answer.{Answer}
use Rattle.session_stages.specs.World.{world}
use Rattle.session_stages.specs.Session.{meaning, answer_of, outcome, scale_of, Steps}
use Rattle.session_tally.specs.declared.Tally.{Tally}
use Rattle.session_tallying.specs.declared.Tallied.{Tallied}
use Rattle.session_tallying.specs.declared.Outcome.{Outcome}
use Rattle.session_tallying.specs.Tallied.{tally_after, Moves, Deals}
use Rattle.library_numbers.specs.declared.State.{State}
use Rattle.library_numbers.specs.declared.Reply.{Reply}
use Rattle.library_numbers.specs.Numbers.{session_of, tally_of, bench_of, reply_of, reply_any, LeftOf}
use Rattle.library_numbers.specs.declared.Left.{Left}

-- what numbers mean in the model
abbrev pub meant : State → Model.Session world
meant s = meaning (session_of s)

abbrev pub made : Call world → State → Model.Outcome world
made c s = step world c (meant s)

-- the counts after a call
abbrev pub counts_after : Call world → State → Tally
counts_after c s = tally_after c (made c s).0 (scale_of (meant s)) (tally_of s.tally)

-- a call that finds s answers the numbers of the model's answer, and leaves its session
pub record Leaves (c : Call world) (s : State) (r : Left) : Type 0 where
  pub reply : r.reply ≡ reply_of (made c s).0
  pub session : meant r.session ≡ (made c s).1
  pub tally : tally_of r.session.tally ≡ counts_after c s

-- a hand-out, with the slice that it leaves
pub record Fills (s : State) (old new : List ℤ) (r : Left) : Type 0 where
  pub left : Leaves (handOut old) s r
  pub slice : new ≡ lent world (made (handOut old) s).0 old

-- a question
abbrev pub Asks : Call world → State → Reply → Type 0
Asks c s r = r ≡ reply_of (made c s).0

-- ---- by way of the bench's session
module _ {c : Call world} (l : List ℤ) {b : Tallied} {o : Outcome} {r : Left} {s : State} (h : LeftOf o r) (e : b ≡ bench_of s) where
  -- a step and the counts after it, as `Moves` and `Deals` have them
  left_by : outcome l o.session.session o.answer ≡ step world c (meaning b.session) → o.session.tally ≡ tally_after c (answer_of l o.answer) (scale_of (meaning b.session)) b.tally → Leaves c s r
  left_by m t =
      let n : outcome l o.session.session o.answer ≡ made c s = m ∙ ap (λ (x : Tallied). step world c (meaning x.session)) e in
      record {
        reply = h.reply ∙ reply_any o.answer l ∙ ap (λ (q : Model.Outcome world). reply_of q.0) n;
        session = ap (λ (x : Tallied). meaning x.session) h.session ∙ ap (λ (q : Model.Outcome world). q.1) n;
        tally = ap (λ (x : Tallied). x.tally) h.session ∙ t ∙ (λ i. tally_after c (n i).0 (scale_of (meaning (e i).session)) (e i).tally);
      }

  pub left-moves : Moves c l b o.session o.answer → Leaves c s r
  left-moves m = left_by m.met.met m.tally

pub left-deals : {b : Tallied} {o : Outcome} {r : Left} {s : State} (old new : List ℤ) → LeftOf o r → b ≡ bench_of s → Deals b old new o.session o.answer → Fills s old new r
left-deals old new h e g =
    record { left = left_by new h e g.met.met g.tally; slice = g.met.slice ∙ ap (λ (x : Tallied). lent world (step world (handOut old) (meaning x.session)).0 old) e }

-- a question, of an equal session and an equal point
pub asked : (c : Call world) (a : Answer) (s : State) {b : Tallied} {r : Reply} → b ≡ bench_of s → r ≡ reply_of (answer_of [] a) → Steps c [] b.session b.session a → Asks c s r
asked c a s e f m = f ∙ ap (λ (q : Model.Outcome world). reply_of q.0) (m.met ∙ ap (λ (x : Tallied). step world c (meaning x.session)) e)

pub same-image : (s : State) {v w : Point} {r : Reply} → v ≡ w → Asks (image_of v) s r → Asks (image_of w) s r
same-image s e f = f ∙ ap (λ (x : Point). reply_of (made (image_of x) s).0) e
