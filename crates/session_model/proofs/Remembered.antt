-- What a session remembers: SPEC, "Operators" and "Walk".
-- Assumes nothing.
use Rattle.std.specs.Prelude.{◌≡◌, refl, Bool, true, false, List, [], ◌∷◌, ℕ}
use Rattle.std.proofs.Common.{sym, ap, ◌∙◌}
use Rattle.ranks.specs.Rest.{Place, at, ended}
use Rattle.session_model.specs.Session.{World, Reading, refuse, accept, Stage, part, whole, is_operator}
use Rattle.session_model.specs.Session.{Call, reading, handOut, rewind, clear, plain, image_of, shortest}
use Rattle.session_model.specs.Session.{Session, early, walking, fresh, joined, remembered, step, after}
use Rattle.session_model.specs.Since.{exchanges}
use Rattle.session_model.specs.Remembered.{operator_of, noted, last_accepted}

module _ (W : World) where
  open W use {Parts, Job, Operator, Point, identity, readPart, readOperator, turn-part, turn-operator}

  -- no question changes the session
  pub plain-same : (s : Session W) → (step W plain s).1 ≡ s
  plain-same (early p) = refl
  plain-same (walking j w o) = refl

  pub image-same : (v : Point) (s : Session W) → (step W (image_of v) s).1 ≡ s
  image-same v (early p) = refl
  image-same v (walking j w o) = refl

  pub shortest_same : (s : Session W) → (step W shortest s).1 ≡ s
  shortest_same (early p) = refl
  shortest_same (walking j w o) = refl

  -- clearing makes the session fresh, and forgets the operator
  pub clear_fresh : (s : Session W) → (step W clear s).1 ≡ fresh W
  clear_fresh s = refl

  pub clear_forgets : (s : Session W) → operator_of W (step W clear s).1 ≡ identity
  clear_forgets s = refl

  -- a rewind keeps it
  pub rewind_keeps : (s : Session W) → operator_of W (step W rewind s).1 ≡ operator_of W s
  rewind_keeps (early p) = refl
  rewind_keeps (walking j w o) = refl

  -- a reading before scale, A and B are there, and one after
  notes-part : (b : List ℕ) (p : Parts) (k : Bool) → is_operator b ≡ k → (r : Reading (Stage Parts Job)) → readPart b p ≡ r
      → operator_of W (joined W p r).1 ≡ noted W (reading b) (joined W p r).0 identity
  notes-part b p true h r e =
      let q = sym e ∙ (turn-part b p h).1 in
      rw (h, q)
  notes-part b p false h (refuse r) e = rw h
  notes-part b p false h (accept n (part q)) e = rw h
  notes-part b p false h (accept n (whole j)) e = rw h

  notes-operator : (b : List ℕ) (j : Job) (w : Place) (o : Operator) (k : Bool) → is_operator b ≡ k → (r : Reading Operator) → readOperator b ≡ r
      → operator_of W (remembered W j w o r).1 ≡ noted W (reading b) (remembered W j w o r).0 o
  notes-operator b j w o true h (refuse r) e = rw h
  notes-operator b j w o true h (accept n o') e = rw (h, e)
  notes-operator b j w o false h r e =
      let q = sym e ∙ (turn-operator b h).1 in
      rw (h, q)

  notes : (c : Call W) (s : Session W) → operator_of W (step W c s).1 ≡ noted W c (step W c s).0 (operator_of W s)
  notes clear s = refl
  notes (reading b) (early p) = notes-part b p (is_operator b) refl (readPart b p) refl
  notes (handOut l) (early p) = refl
  notes rewind (early p) = refl
  notes plain (early p) = refl
  notes (image_of v) (early p) = refl
  notes shortest (early p) = refl
  notes (reading b) (walking j w o) = notes-operator b j w o (is_operator b) refl (readOperator b) refl
  notes (handOut l) (walking j ended o) = refl
  notes (handOut l) (walking j (at p) o) = refl
  notes rewind (walking j w o) = refl
  notes plain (walking j w o) = refl
  notes (image_of v) (walking j w o) = refl
  notes shortest (walking j w o) = refl

  last-by : (cs : List (Call W)) (s : Session W) → operator_of W (after W s cs) ≡ last_accepted W (operator_of W s) (exchanges W s cs)
  last-by [] s = refl
  last-by (c ∷ cs) s = last-by cs (step W c s).1 ∙ ap (λ (o : Operator). last_accepted W o (exchanges W (step W c s).1 cs)) (notes c s)

  -- what a session remembers: the last operator that was accepted, the identity if none; clearing forgets it, a rewind does not
  pub last_remembered : (cs : List (Call W)) → operator_of W (after W (fresh W) cs) ≡ last_accepted W identity (exchanges W (fresh W) cs)
  last_remembered cs = last-by cs (fresh W)
