-- Demand 3: a refused call is as if it had not been made.
-- Assumes nothing.
use Rattle.std.specs.Prelude.{◌≡◌, refl, Bool, true, false, List, [], ◌∷◌, ℤ}
use Rattle.std.proofs.Common.{ap}
use Rattle.ranks.specs.Rest.{Place, at, ended}
use Rattle.session_model.specs.Session.{World, Reading, refuse, accept, Stage}
use Rattle.session_model.specs.Session.{Call, reading, handOut, rewind, clear, plain, image_of, shortest, Answer, refused, taken, handed, done, says, best, is_refused, lent}
use Rattle.session_model.specs.Session.{Session, early, walking, joined, remembered, step}
use Rattle.session_model.specs.lemmas.Refused.{NotMade}

module _ (W : World) where
  open W use {Parts, Job, Operator, readPart, readOperator}

  joined_same : (p : Parts) (r : Reading (Stage Parts Job)) → is_refused W (joined W p r).0 ≡ true → (joined W p r).1 ≡ early p
  joined_same p (refuse r) h = refl
  joined_same p (accept n s) h = cc

  remembered-same : (j : Job) (w : Place) (o : Operator) (r : Reading Operator) → is_refused W (remembered W j w o r).0 ≡ true
      → (remembered W j w o r).1 ≡ walking j w o
  remembered-same j w o (refuse r) h = refl
  remembered-same j w o (accept n o') h = cc

  -- a refusal leaves the session and the lent slice as they were: the session
  pub refused_same : (c : Call W) (s : Session W) → is_refused W (step W c s).0 ≡ true → (step W c s).1 ≡ s
  refused_same clear s h = cc
  refused_same (reading b) (early p) h = joined_same p (readPart b p) h
  refused_same (handOut l) (early p) h = refl
  refused_same rewind (early p) h = refl
  refused_same plain (early p) h = refl
  refused_same (image_of v) (early p) h = refl
  refused_same shortest (early p) h = refl
  refused_same (reading b) (walking j w o) h = remembered-same j w o (readOperator b) h
  refused_same (handOut l) (walking j ended o) h = refl
  refused_same (handOut l) (walking j (at p) o) h = cc
  refused_same rewind (walking j w o) h = cc
  refused_same plain (walking j w o) h = refl
  refused_same (image_of v) (walking j w o) h = refl
  refused_same shortest (walking j w o) h = refl

  -- and the lent list
  pub refused_lent : (a : Answer W) (l : List ℤ) → is_refused W a ≡ true → lent W a l ≡ l
  refused_lent (refused r) l h = refl
  refused_lent (taken n) l h = refl
  refused_lent (handed n e l') l h = cc
  refused_lent done l h = refl
  refused_lent (says b) l h = refl
  refused_lent (best b) l h = refl

  strike : (c : Call W) (s : Session W) (cs : List (Call W)) (b : Bool) → is_refused W (step W c s).0 ≡ b → NotMade W (step W c s).1 cs → NotMade W s (c ∷ cs)
  strike c s cs true e n =
      let q = refused_same c s e in
      let m = rw q at n in
      record { same-answers = rw (e, q) m.same-answers; same-session = rw (e, q) m.same-session }
  strike c s cs false e n =
      record {
        same-answers = rw e (ap (λ (l : List (Answer W)). (step W c s).0 ∷ l) n.same-answers);
        same-session = rw e n.same-session;
      }

  -- with the refused calls struck out, the others get the same answers and leave the same session
  pub not_made : (cs : List (Call W)) (s : Session W) → NotMade W s cs
  not_made [] s = record { same-answers = refl; same-session = refl }
  not_made (c ∷ cs) s = strike c s cs (is_refused W (step W c s).0) refl (not_made cs (step W c s).1)
