-- Demand 3: two lists that are alike without their operator readings get the same answers and points from their hand-outs
-- Assumes nothing.
use Rattle.std.specs.Prelude.{Bool, true, false, cond, not, List, [], ◌∷◌}
use Rattle.ranks.specs.Rest.{Place}
use Rattle.session_model.specs.Session.{World, is_operator}
use Rattle.session_model.specs.Session.{Call, reading, handOut, rewind, clear, plain, image_of, shortest, Answer, Session, early, walking, step}

module _ (W : World) where
  open W use {Parts, Job, Operator}

  -- a reading that begins with kind 04, accepted or refused
  abbrev pub reads_operator : Call W → Bool
  reads_operator (reading b) = is_operator b
  reads_operator (handOut l) = false
  reads_operator rewind = false
  reads_operator clear = false
  reads_operator plain = false
  reads_operator (image_of v) = false
  reads_operator shortest = false

  -- a call whose answer no operator bears on: any but an operator reading and an image question
  abbrev pub is_independent : Call W → Bool
  is_independent (reading b) = not (is_operator b)
  is_independent (handOut l) = true
  is_independent rewind = true
  is_independent clear = true
  is_independent plain = true
  is_independent (image_of v) = false
  is_independent shortest = true

  abbrev pub is_hand_out : Call W → Bool
  is_hand_out (reading b) = false
  is_hand_out (handOut l) = true
  is_hand_out rewind = false
  is_hand_out clear = false
  is_hand_out plain = false
  is_hand_out (image_of v) = false
  is_hand_out shortest = false

  -- a list with its operator readings struck out
  abbrev pub struck : List (Call W) → List (Call W)
  struck [] = []
  struck (c ∷ cs) = cond (reads_operator c) (struck cs) (c ∷ struck cs)

  -- two sessions that differ at most in the remembered operator
  pub data SameButOperator : Session W → Session W → Type 0 where
    both-early : (p : Parts) → SameButOperator (early p) (early p)
    both-walking : (j : Job) (w : Place) (o o' : Operator) → SameButOperator (walking j w o) (walking j w o')

  module _ (picks : Call W → Bool) where
    -- the answers to the calls that are picked
    abbrev pub picked : Session W → List (Call W) → List (Answer W)
    picked s [] = []
    picked s (c ∷ cs) = cond (picks c) ((step W c s).0 ∷ picked (step W c s).1 cs) (picked (step W c s).1 cs)
