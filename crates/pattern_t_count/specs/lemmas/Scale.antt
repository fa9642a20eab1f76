-- The scale of a session's job passed its test, after every list of calls: SPEC, "Records".
use Rattle.std.specs.Prelude.{◌≡◌, refl, Bool, true, false, cond, List, [], ◌∷◌, ℕ, ◌≤◌, leb, ltb, eqb, length, Result, Ok, Err}
use Rattle.std.proofs.Common.{ap, subst, ◌∙◌, arith, leb-true}
use Rattle.region.specs.declared.Region.{Region}
use Rattle.region.specs.declared.Job.{Job}
use Rattle.region.specs.declared.Refusal as RegionCheck
use Rattle.region.specs.declared.Refusal.TheVariants as C
use Rattle.region.specs.Region.{top_scale, check_of}
use Rattle.operator.specs.declared.Operator.{Operator}
use Rattle.operator.specs.declared.Refusal as OperatorCheck
use Rattle.operator.specs.declared.Refusal.TheVariants as O
use Rattle.operator.specs.Operator as Op
use Rattle.record_kinds.specs.declared.Kind.{Kind}
use Rattle.record_kinds.specs.declared.Kind.TheVariants as K
use Rattle.record_kinds.specs.declared.Turn.{Turn}
use Rattle.record_kinds.specs.declared.Turn.TheVariants as T
use Rattle.record_kinds.specs.declared.Refusal.{Refusal}
use Rattle.record_kinds.specs.declared.Refusal.TheVariants.{OutOfRange}
use Rattle.record_kinds.specs.Kinds.{kind_of, in_turn, is_known, admission_of, body_length}
use Rattle.record_fields.specs.Field.{unsigned_at}
use Rattle.record.specs.declared.Record.{Record}
use Rattle.record.specs.declared.Record.TheVariants as R
use Rattle.record.specs.declared.Reading as Read
use Rattle.record.specs.declared.Reading.TheVariants as RV
use Rattle.record.specs.Record.{reading_of, body_of, scale_of, selection_of, region_reading, operator_reading, admitted}
use Rattle.ranks.specs.Rest.{Place, at, ended}
use Rattle.session_model.specs.Session.{Reading, refuse, accept, Call, reading, handOut, rewind, clear, plain, image_of, shortest, early, walking, joined, remembered, step, after}
use Rattle.session_model.specs.Session as Model
use Rattle.session_stages.specs.declared.Parts.{Parts}
use Rattle.session_stages.specs.declared.Parts.TheVariants.{Nothing, Scaled, Selected, First}
use Rattle.session_stages.specs.declared.Course.{Course}
use Rattle.session_stages.specs.declared.Stage.TheVariants as S
use Rattle.session_stages.specs.declared.Session.{Session}
use Rattle.session_stages.specs.World.{world, turn_at, place, part_reading, operator_reading as noted}
use Rattle.session_stages.specs.Session.{meaning, fresh}
use Rattle.session.specs.Run.{Made, Run, calls_of, from-after}

-- ---- a reading that is accepted as a scale
apart : {n m : ℕ} (x : Record) (k : ℕ) → (x ≡ R.Scale k → ⊥) → RV.Accepted x n ≡ RV.Accepted (R.Scale k) m → ⊥
apart x k f e = let q : x ≡ R.Scale k = cc in f q

never : {n k : ℕ} (f : Refusal) → RV.Refused f ≡ RV.Accepted (R.Scale k) n → ⊥
never f e = let z : ◌≡◌ {A = ℕ} 0 1 = cc in omega arith

of_region : (c : Result Unit RegionCheck.Refusal) (r : Region) (m k n : ℕ) → region_reading c r m ≡ RV.Accepted (R.Scale k) n → ⊥
of_region (Ok tt) r m k n e = apart (R.Region r) k (λ q. let z : ◌≡◌ {A = ℕ} 0 1 = cc in omega arith) e
of_region (Err C.OutOfRange) r m k n e = never _ e
of_region (Err C.NotPositive) r m k n e = never _ e
of_region (Err C.NoDirection) r m k n e = never _ e

of_operator : (c : Result Unit OperatorCheck.Refusal) (g : Operator) (m k n : ℕ) → operator_reading c g m ≡ RV.Accepted (R.Scale k) n → ⊥
of_operator (Ok tt) g m k n e = apart (R.Operator g) k (λ q. let z : ◌≡◌ {A = ℕ} 0 1 = cc in omega arith) e
of_operator (Err O.OutOfRange) g m k n e = never _ e
of_operator (Err O.OddParity) g m k n e = never _ e
of_operator (Err O.NotSpecial) g m k n e = never _ e

of_selection : (x y : Bool) (k n : ℕ) → cond x (RV.Accepted (R.Selection false) 2) (cond y (RV.Accepted (R.Selection true) 2) (RV.Refused OutOfRange)) ≡ RV.Accepted (R.Scale k) n → ⊥
of_selection true y k n e = apart (R.Selection false) k (λ q. let z : ◌≡◌ {A = ℕ} 0 1 = cc in omega arith) e
of_selection false true k n e = apart (R.Selection true) k (λ q. let z : ◌≡◌ {A = ℕ} 0 1 = cc in omega arith) e
of_selection false false k n e = never _ e

of_scale : (h k n : ℕ) (b : Bool) → leb h top_scale ≡ b → cond b (RV.Accepted (R.Scale h) 2) (RV.Refused OutOfRange) ≡ RV.Accepted (R.Scale k) n → k ≤ top_scale
of_scale h k n true l e = let q : h ≡ k = cc in subst (λ i. i ≤ top_scale) q (leb-true h top_scale l)
of_scale h k n false l e = absurd (never _ e)

of_body : (x : Kind) (s : List ℕ) (k n : ℕ) → body_of x s ≡ RV.Accepted (R.Scale k) n → k ≤ top_scale
unfolding body_of scale_of selection_of
of_body K.Scale s k n e = of_scale (unsigned_at 1 s 0) k n (leb (unsigned_at 1 s 0) top_scale) refl e
of_body K.Rectangle s k n e = absurd (of_region (check_of _) _ 19 k n e)
of_body K.Ellipse s k n e = absurd (of_region (check_of _) _ 21 k n e)
of_body K.Slice s k n e = absurd (of_region (check_of _) _ 11 k n e)
of_body K.Operator s k n e = absurd (of_operator (Op.check_of _) _ 17 k n e)
of_body K.Selection s k n e = absurd (of_selection (eqb (unsigned_at 1 s 0) 0) (eqb (unsigned_at 1 s 0) 1) k n e)
of_body K.Unknown s k n e = absurd (never _ e)

of_kind : (x : Kind) (s : List ℕ) (k n : ℕ) (a : Result Unit Refusal) → admitted a (body_of x s) ≡ RV.Accepted (R.Scale k) n → k ≤ top_scale
of_kind x s k n (Err f) e = absurd (never f e)
of_kind x s k n (Ok tt) e = of_body x s k n e

scale-accepted : (b : List ℕ) (t : Turn) (k n : ℕ) → reading_of b t ≡ RV.Accepted (R.Scale k) n → k ≤ top_scale
unfolding reading_of
scale-accepted [] t k n e = absurd (never _ e)
scale-accepted (c ∷ b) t k n e = let x = kind_of c in of_kind x b k n (admission_of (is_known x) (in_turn x t) (ltb (length b) (body_length x))) e

-- ---- the scale of what a session has
abbrev Within : Parts → Type 0
Within Nothing = Unit {0}
Within (Scaled k) = k ≤ top_scale
Within (Selected k all) = k ≤ top_scale
Within (First k all a) = k ≤ top_scale

abbrev Tested : Model.Session world → Type 0
Tested (early p) = Within p
Tested (walking j w o) = j.k ≤ top_scale

placed : (p : Parts) (x : Record) (n : ℕ) → Within p → ((k : ℕ) → x ≡ R.Scale k → k ≤ top_scale) → Tested (joined world p (place p x n)).1
placed Nothing (R.Scale k) n h f = f k refl
placed Nothing (R.Selection all) n h f = h
placed Nothing (R.Region a) n h f = h
placed Nothing (R.Operator g) n h f = h
placed (Scaled i) (R.Scale k) n h f = h
placed (Scaled i) (R.Selection all) n h f = h
placed (Scaled i) (R.Region a) n h f = h
placed (Scaled i) (R.Operator g) n h f = h
placed (Selected i all) (R.Scale k) n h f = h
placed (Selected i all) (R.Selection b) n h f = h
placed (Selected i all) (R.Region a) n h f = h
placed (Selected i all) (R.Operator g) n h f = h
placed (First i all a) (R.Scale k) n h f = h
placed (First i all a) (R.Selection b) n h f = h
placed (First i all a) (R.Region b) n h f = h
placed (First i all a) (R.Operator g) n h f = h

joins : (p : Parts) (b : List ℕ) → Within p → (r : Read.Reading) → reading_of b (turn_at p) ≡ r → Tested (joined world p (part_reading p r)).1
joins p b h (RV.Accepted x n) e = placed p x n h (λ k q. scale-accepted b (turn_at p) k n (e ∙ ap (λ y. RV.Accepted y n) q))
joins p b h (RV.Refused f) e = h

notes : (j : Job) (w : Place) (o : Operator) → j.k ≤ top_scale → (r : Reading Operator) → Tested (remembered world j w o r).1
notes j w o h (refuse r) = h
notes j w o h (accept n g) = h

keeps : (c : Call world) (s : Model.Session world) → Tested s → Tested (step world c s).1
keeps clear s h = tt
keeps (reading b) (early p) h = joins p b h (reading_of b (turn_at p)) refl
keeps (handOut l) (early p) h = h
keeps rewind (early p) h = h
keeps plain (early p) h = h
keeps (image_of v) (early p) h = h
keeps shortest (early p) h = h
keeps (reading b) (walking j w o) h = notes j w o h (noted (reading_of b T.Operators))
keeps (handOut l) (walking j ended o) h = h
keeps (handOut l) (walking j (at p) o) h = h
keeps rewind (walking j w o) h = h
keeps plain (walking j w o) h = h
keeps (image_of v) (walking j w o) h = h
keeps shortest (walking j w o) h = h

all_tested : (cs : List (Call world)) (s : Model.Session world) → Tested s → Tested (after world s cs)
all_tested [] s h = h
all_tested (c ∷ cs) s h = all_tested cs (step world c s).1 (keeps c s h)

-- after every run of the code's calls
pub run-scale : {ms : List Made} {s : Session} → Run ms s → (c : Course) → s.stage ≡ S.Walking c → c.job.k ≤ top_scale
run-scale {ms} r c e = rw e at (rw (← from-after r) at (all_tested (calls_of ms) (meaning fresh) tt))
