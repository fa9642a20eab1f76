-- The operator that a session remembers passed the test: after every list of calls, so that the image question asks what SPEC, "Questions", says.
use Rattle.operator.specs.declared.Refusal.{Refusal}
use Rattle.std.specs.Prelude.{◌≡◌, refl, Bool, true, false, List, [], ◌∷◌, ℕ, ltb, length, Result, Ok, Err}
use Rattle.std.proofs.Common.{arith}
use Rattle.region.specs.declared.Job.{Job}
use Rattle.operator.specs.declared.Operator.{Operator}
use Rattle.operator.specs.declared.Refusal.TheVariants.{OutOfRange, OddParity, NotSpecial}
use Rattle.operator.specs.Operator.{identity, in_range, even_parity, special, det_whole, det_root, check_of}
use Rattle.record_kinds.specs.declared.Kind.{Kind}
use Rattle.record_kinds.specs.declared.Kind.TheVariants as K
use Rattle.record_kinds.specs.declared.Turn.TheVariants as T
use Rattle.record_kinds.specs.Kinds.{kind_of, admission_of}
use Rattle.record.specs.Record.{reading_of, kind_reading, body_of, operator_of as fields_of, operator_reading as checked}
use Rattle.ranks.specs.Rest.{Place, at, ended}
use Rattle.session_model.specs.Session.{Reading, refuse, accept, Stage, part, whole, Call, reading, handOut, rewind, clear, plain, image_of, shortest}
use Rattle.session_model.specs.Session.{early, walking, joined, remembered, step, after}
use Rattle.session_model.specs.Session as Model
use Rattle.session_model.specs.Remembered.{operator_of}
use Rattle.session_stages.specs.declared.Parts.{Parts}
use Rattle.session_stages.specs.World.{world, part_reading, operator_reading, turn_at}
use Rattle.session_stages.specs.Session.{meaning, fresh}

never : {A : Type 0} (r n : ℕ) (a : A) → ◌≡◌ {A = Reading A} (refuse r) (accept n a) → ⊥
never r n a e = let u : ◌≡◌ {A = ℕ} 0 1 = cc in absurd (omega arith)

-- a reading that is accepted as an operator passed the test
checked_special : (g o : Operator) (n : ℕ) (c : Result Unit Refusal) → check_of g ≡ c → operator_reading (checked c g 17) ≡ accept n o → check_of o ≡ (Ok tt)
checked_special g o n (Ok tt) h e = let q : g ≡ o = cc in rw (← q) h
checked_special g o n (Err OutOfRange) h e = absurd (never _ n o e)
checked_special g o n (Err OddParity) h e = absurd (never _ n o e)
checked_special g o n (Err NotSpecial) h e = absurd (never _ n o e)

kind_special : (k : Kind) (b : List ℕ) (n : ℕ) (o : Operator) → operator_reading (kind_reading k b T.Operators) ≡ accept n o → check_of o ≡ (Ok tt)
unfolding admission_of body_of
kind_special K.Scale b n o e = absurd (never _ n o e)
kind_special K.Rectangle b n o e = absurd (never _ n o e)
kind_special K.Ellipse b n o e = absurd (never _ n o e)
kind_special K.Slice b n o e = absurd (never _ n o e)
kind_special K.Selection b n o e = absurd (never _ n o e)
kind_special K.Unknown b n o e = absurd (never _ n o e)
kind_special K.Operator b n o e = go (ltb (length b) 16) refl e
  where
    go : (s : Bool) → ltb (length b) 16 ≡ s → operator_reading (kind_reading K.Operator b T.Operators) ≡ accept n o → check_of o ≡ (Ok tt)
    go true h e = absurd (never _ n o (rw h at e))
    go false h e = checked_special (fields_of b) o n (check_of (fields_of b)) refl (rw h at e)

accepted-special : (b : List ℕ) (n : ℕ) (o : Operator) → operator_reading (reading_of b T.Operators) ≡ accept n o → check_of o ≡ (Ok tt)
unfolding reading_of
accepted-special [] n o e = absurd (never _ n o e)
accepted-special (k ∷ b) n o e = kind_special (kind_of k) b n o e

identity-special : check_of identity ≡ (Ok tt)
unfolding check_of in_range even_parity special det_whole det_root
identity-special = refl

Tested : Model.Session world → Type 0
Tested s = check_of (operator_of world s) ≡ (Ok tt)

joins : (p : Parts) (r : Reading (Stage Parts Job)) → Tested (joined world p r).1
unfolding Tested
joins p (refuse r) = identity-special
joins p (accept n (part q)) = identity-special
joins p (accept n (whole j)) = identity-special

notes : (b : List ℕ) (j : Job) (w : Place) (o : Operator) → check_of o ≡ (Ok tt) → (r : Reading Operator) → operator_reading (reading_of b T.Operators) ≡ r → Tested (remembered world j w o r).1
unfolding Tested
notes b j w o h (refuse r) e = h
notes b j w o h (accept n g) e = accepted-special b n g e

keeps : (c : Call world) (s : Model.Session world) → Tested s → Tested (step world c s).1
unfolding Tested
keeps clear s h = identity-special
keeps (reading b) (early p) h = joins p (part_reading p (reading_of b (turn_at p)))
keeps (handOut l) (early p) h = h
keeps rewind (early p) h = h
keeps plain (early p) h = h
keeps (image_of v) (early p) h = h
keeps shortest (early p) h = h
keeps (reading b) (walking j w o) h = notes b j w o h (operator_reading (reading_of b T.Operators)) refl
keeps (handOut l) (walking j ended o) h = h
keeps (handOut l) (walking j (at p) o) h = h
keeps rewind (walking j w o) h = h
keeps plain (walking j w o) h = h
keeps (image_of v) (walking j w o) h = h
keeps shortest (walking j w o) h = h

all_tested : (cs : List (Call world)) (s : Model.Session world) → Tested s → Tested (after world s cs)
all_tested [] s h = h
all_tested (c ∷ cs) s h = all_tested cs (step world c s).1 (keeps c s h)

-- the operator that is remembered after a list of calls is special, so `image-yes` holds of it
pub remembered-special : (cs : List (Call world)) → check_of (operator_of world (after world (meaning fresh) cs)) ≡ (Ok tt)
unfolding Tested
remembered-special cs = all_tested cs (meaning fresh) identity-special
