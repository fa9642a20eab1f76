-- What a session remembers: SPEC, "Operators" and "Walk".
-- Assumes nothing.
use Rattle.std.specs.Prelude.{cond, List, [], ◌∷◌}
use Rattle.session_model.specs.Session.{World, Reading, refuse, accept, is_operator}
use Rattle.session_model.specs.Session.{Call, reading, handOut, rewind, clear, plain, image_of, shortest, Answer, refused, taken, handed, done, says, best}
use Rattle.session_model.specs.Session.{Session, early, walking}
use Rattle.session_model.specs.Since.{Exchange}

module _ (W : World) where
  open W use {Operator, identity, readOperator}

  -- the identity if none was accepted
  abbrev pub operator_of : Session W → Operator
  operator_of (early p) = identity
  operator_of (walking j w o) = o

  -- the operator that is remembered after a call and its answer, if it was o before: the last one that was accepted
  abbrev accepted : Operator → Reading Operator → Operator
  accepted o (refuse r) = o
  accepted o (accept n o') = o'

  abbrev if_taken : Answer W → Operator → Operator → Operator
  if_taken (refused r) o' o = o
  if_taken (taken n) o' o = o'
  if_taken (handed n e l) o' o = o
  if_taken done o' o = o
  if_taken (says b) o' o = o
  if_taken (best b) o' o = o

  abbrev pub noted : Call W → Answer W → Operator → Operator
  noted (reading b) a o = cond (is_operator b) (if_taken a (accepted o (readOperator b)) o) o
  noted (handOut l) a o = o
  noted rewind a o = o
  noted clear a o = identity
  noted plain a o = o
  noted (image_of v) a o = o
  noted shortest a o = o

  abbrev pub last_accepted : Operator → List (Exchange W) → Operator
  last_accepted o [] = o
  last_accepted o (x ∷ xs) = last_accepted (noted x.0 x.1 o) xs
