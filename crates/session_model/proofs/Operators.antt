-- Demand 3: two lists that are alike without their operator readings get the same answers and points from their hand-outs
-- Assumes nothing.
use Rattle.std.specs.Prelude.{◌≡◌, refl, Bool, true, false, List, [], ◌∷◌}
use Rattle.std.proofs.Common.{sym, ap, ap₂, ◌∙◌}
use Rattle.std.proofs.lemmas.Bool.{false≢true}
use Rattle.ranks.specs.Rest.{Place, at, ended}
use Rattle.session_model.specs.Session.{World, Reading, refuse, accept}
use Rattle.session_model.specs.Session.{Call, reading, handOut, rewind, clear, plain, image_of, shortest, Session, early, walking, fresh, joined, remembered, step}
use Rattle.session_model.specs.Operators.{reads_operator, is_independent, is_hand_out, struck, SameButOperator, both-early, both-walking, picked}

module _ (W : World) where
  open W use {Job, Operator, readPart, readOperator, turn-part}

  operator-dependent : (c : Call W) → reads_operator W c ≡ true → is_independent W c ≡ false
  operator-dependent (reading b) h = rw h
  operator-dependent (handOut l) h = absurd (false≢true h)
  operator-dependent rewind h = absurd (false≢true h)
  operator-dependent clear h = absurd (false≢true h)
  operator-dependent plain h = absurd (false≢true h)
  operator-dependent (image_of v) h = refl
  operator-dependent shortest h = absurd (false≢true h)

  pub same : (s : Session W) → SameButOperator W s s
  same (early p) = both-early p
  same (walking j w o) = both-walking j w o o

  remembered-both : (j : Job) (w : Place) (o o' : Operator) (r : Reading Operator) → SameButOperator W (remembered W j w o r).1 (remembered W j w o' r).1
  remembered-both j w o o' (refuse r) = both-walking j w o o'
  remembered-both j w o o' (accept n q) = both-walking j w _ _

  remembered-one : (j : Job) (w : Place) (o o' : Operator) (r : Reading Operator) → SameButOperator W (remembered W j w o r).1 (walking j w o')
  remembered-one j w o o' (refuse r) = both-walking j w o o'
  remembered-one j w o o' (accept n q) = both-walking j w _ o'

  remembered-answer : (j : Job) (w : Place) (o o' : Operator) (r : Reading Operator) → (remembered W j w o r).0 ≡ (remembered W j w o' r).0
  remembered-answer j w o o' (refuse r) = refl
  remembered-answer j w o o' (accept n q) = refl

  pub step_both : (c : Call W) {s t : Session W} → SameButOperator W s t → SameButOperator W (step W c s).1 (step W c t).1
  step_both clear d = same (fresh W)
  step_both (reading b) (both-early p) = same (joined W p (readPart b p)).1
  step_both (handOut l) (both-early p) = both-early p
  step_both rewind (both-early p) = both-early p
  step_both plain (both-early p) = both-early p
  step_both (image_of v) (both-early p) = both-early p
  step_both shortest (both-early p) = both-early p
  step_both (reading b) (both-walking j w o o') = remembered-both j w o o' (readOperator b)
  step_both (handOut l) (both-walking j ended o o') = both-walking j ended o o'
  step_both (handOut l) (both-walking j (at p) o o') = both-walking j _ o o'
  step_both rewind (both-walking j w o o') = both-walking j (at 0) _ _
  step_both plain (both-walking j w o o') = both-walking j w o o'
  step_both (image_of v) (both-walking j w o o') = both-walking j w o o'
  step_both shortest (both-walking j w o o') = both-walking j w o o'

  pub step-operator : (c : Call W) → reads_operator W c ≡ true → {s t : Session W} → SameButOperator W s t → SameButOperator W (step W c s).1 t
  step-operator (reading b) h (both-early p) = rw (turn-part b p h).1 (both-early p)
  step-operator (reading b) h (both-walking j w o o') = remembered-one j w o o' (readOperator b)
  step-operator (handOut l) h d = absurd (false≢true h)
  step-operator rewind h d = absurd (false≢true h)
  step-operator clear h d = absurd (false≢true h)
  step-operator plain h d = absurd (false≢true h)
  step-operator (image_of v) h d = absurd (false≢true h)
  step-operator shortest h d = absurd (false≢true h)

  -- an accepted operator changes nothing here: an operator reading, accepted or refused, changes at most the remembered operator
  pub operator_only : (c : Call W) → reads_operator W c ≡ true → (s : Session W) → SameButOperator W (step W c s).1 s
  operator_only c h s = step-operator c h (same s)

  pub step-answer : (c : Call W) → is_independent W c ≡ true → {s t : Session W} → SameButOperator W s t → (step W c s).0 ≡ (step W c t).0
  step-answer (reading b) h (both-early p) = refl
  step-answer (reading b) h (both-walking j w o o') = remembered-answer j w o o' (readOperator b)
  step-answer (handOut l) h (both-early p) = refl
  step-answer (handOut l) h (both-walking j ended o o') = refl
  step-answer (handOut l) h (both-walking j (at p) o o') = refl
  step-answer rewind h (both-early p) = refl
  step-answer rewind h (both-walking j w o o') = refl
  step-answer clear h d = refl
  step-answer plain h (both-early p) = refl
  step-answer plain h (both-walking j w o o') = refl
  step-answer (image_of v) h d = absurd (false≢true h)
  step-answer shortest h (both-early p) = refl
  step-answer shortest h (both-walking j w o o') = refl

  module _ (picks : Call W → Bool) where
    module _ (independent : (c : Call W) → picks c ≡ true → is_independent W c ≡ true) where
      strike : (c : Call W) (cs : List (Call W)) {s t : Session W} → SameButOperator W s t
          → ((s' t' : Session W) → SameButOperator W s' t' → picked W picks s' cs ≡ picked W picks t' (struck W cs))
          → (o p : Bool) → reads_operator W c ≡ o → picks c ≡ p → picked W picks s (c ∷ cs) ≡ picked W picks t (struck W (c ∷ cs))
      strike c cs d ih true true e f = absurd (false≢true (sym (operator-dependent c e) ∙ independent c f))
      strike c cs d ih true false e f = rw (e, f) (ih _ _ (step-operator c e d))
      strike c cs d ih false true e f = rw (e, f) (ap₂ ◌∷◌ (step-answer c (independent c f) d) (ih _ _ (step_both c d)))
      strike c cs d ih false false e f = rw (e, f) (ih _ _ (step_both c d))

      picked-struck : (cs : List (Call W)) (s t : Session W) → SameButOperator W s t → picked W picks s cs ≡ picked W picks t (struck W cs)
      picked-struck [] s t d = refl
      picked-struck (c ∷ cs) s t d = strike c cs d (picked-struck cs) (reads_operator W c) (picks c) refl refl

      -- two lists that are alike without their operator readings get the same answers, from any choice of independent calls
      pub picked-alike : (cs ds : List (Call W)) → struck W cs ≡ struck W ds → picked W picks (fresh W) cs ≡ picked W picks (fresh W) ds
      picked-alike cs ds e = picked-struck cs (fresh W) (fresh W) (same (fresh W)) ∙ ap (picked W picks (fresh W)) e ∙ sym (picked-struck ds (fresh W) (fresh W) (same (fresh W)))

  hand-out-independent : (c : Call W) → is_hand_out W c ≡ true → is_independent W c ≡ true
  hand-out-independent (reading b) h = absurd (false≢true h)
  hand-out-independent (handOut l) h = refl
  hand-out-independent rewind h = refl
  hand-out-independent clear h = refl
  hand-out-independent plain h = refl
  hand-out-independent (image_of v) h = absurd (false≢true h)
  hand-out-independent shortest h = refl

  -- two lists that are alike without their operator readings get the same answers and points from their hand-outs
  pub alike_hand_outs : (cs ds : List (Call W)) → struck W cs ≡ struck W ds → picked W (is_hand_out W) (fresh W) cs ≡ picked W (is_hand_out W) (fresh W) ds
  alike_hand_outs = picked-alike (is_hand_out W) hand-out-independent

  -- and so do all calls but operator readings and image questions
  pub alike_others : (cs ds : List (Call W)) → struck W cs ≡ struck W ds → picked W (is_independent W) (fresh W) cs ≡ picked W (is_independent W) (fresh W) ds
  alike_others = picked-alike (is_independent W) (λ c h. h)
