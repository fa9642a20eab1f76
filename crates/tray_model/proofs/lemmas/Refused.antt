-- A refused call is as if it had not been made.
-- Assumes nothing.
use Rattle.std.specs.Prelude.{◌≡◌, refl, Bool, true, false, List, [], ◌∷◌, ℤ}
use Rattle.std.proofs.Common.{ap}
use Rattle.ranks.specs.Rest.{at, ended}
use Rattle.tray_model.specs.Session.{World, Taking, refuse, accept, Call, taking, handOut, rewind, clear, Answer, refused, taken, handed, done, is_refused, lent}
use Rattle.tray_model.specs.Session.{Session, early, walking, begun, step}
use Rattle.tray_model.specs.lemmas.Refused.{NotMade}

module _ (W : World) where
  open W use {Tray, takes}

  begun-same : (s : Session W) (x : Taking Tray) → is_refused W (begun W s x).0 ≡ true → (begun W s x).1 ≡ s
  begun-same s (refuse r) h = refl
  begun-same s (accept n t) h = cc

  -- a refusal leaves the session and the lent slice as they were: the session
  pub refused_same : (c : Call W) (s : Session W) → is_refused W (step W c s).0 ≡ true → (step W c s).1 ≡ s
  refused_same clear s h = cc
  refused_same (taking x) s h = begun-same s (takes x) h
  refused_same (handOut l) early h = refl
  refused_same rewind early h = refl
  refused_same (handOut l) (walking t ended) h = refl
  refused_same (handOut l) (walking t (at p)) h = cc
  refused_same rewind (walking t w) h = cc

  -- and the lent list
  pub refused_lent : (a : Answer W) (l : List ℤ) → is_refused W a ≡ true → lent W a l ≡ l
  refused_lent (refused r) l h = refl
  refused_lent (taken n) l h = refl
  refused_lent (handed n e l') l h = cc
  refused_lent done l h = refl

  strike : (c : Call W) (s : Session W) (cs : List (Call W)) (b : Bool) → is_refused W (step W c s).0 ≡ b → NotMade W (step W c s).1 cs → NotMade W s (c ∷ cs)
  strike c s cs true e n =
      let q = refused_same c s e in
      let m = rw q at n in
      record { same-answers = rw (e, q) m.same-answers; same-session = rw (e, q) m.same-session }
  strike c s cs false e n =
      record {
        same-answers = rw e (ap (λ (l : List (Answer W)). (step W c s).0 ∷ l) n.same-answers);
        same-session = rw e n.same-session;
      }

  -- with the refused calls struck out, the others get the same answers and leave the same session
  pub not_made : (cs : List (Call W)) (s : Session W) → NotMade W s cs
  not_made [] s = record { same-answers = refl; same-session = refl }
  not_made (c ∷ cs) s = strike c s cs (is_refused W (step W c s).0) refl (not_made cs (step W c s).1)
