-- What a session and its answers mean, in the model of `session_model`. Every value of the type has a meaning.
use Rattle.std.specs.Prelude.{◌≡◌, refl, Bool, true, false, List, [], ℕ, ◌/◌, ℤ, length, drop, Some, None, Option as Maybe}
use Rattle.std.proofs.Common.{ap, ◌∙◌}
use Rattle.std.proofs.Math.Option.{Option}
use Rattle.std.proofs.Math.Option as O
use Rattle.ring.specs.declared.Point.{Point}
use Rattle.record_kinds.specs.declared.Turn.{Turn}
use Rattle.record_kinds.specs.declared.Turn.TheVariants as T
use Rattle.record_kinds.specs.declared.Refusal.{Refusal}
use Rattle.record.specs.declared.Reading as D
use Rattle.record.specs.declared.Reading.TheVariants as RV
use Rattle.record_kinds.specs.Kinds.{number}
use Rattle.record.specs.Record.{reading_of}
use Rattle.ranks.specs.Rest.{is_ended, left_at}
use Rattle.ranks.proofs.Rest.{ended-nil}
use Rattle.ranks.specs.Rank.{top}
use Rattle.ranks.specs.Handed.{Gave}
use Rattle.cuts.specs.Digits.{span}
use Rattle.walk_list.specs.Walk.{listed_at, numbers_in, spot_of}
use Rattle.walk.specs.lemmas.Hand.{gave_none}
use Rattle.session_model.specs.Session.{Call, handOut, refused, taken, handed, done, says, best, early, walking, joined, remembered, given, step, reading, lent}
use Rattle.session_model.specs.Session as Model
use Rattle.session_stages.specs.declared.Course.{Course}
use Rattle.session_stages.specs.declared.Parts.TheVariants.{Nothing}
use Rattle.session_stages.specs.declared.Stage.{Stage}
use Rattle.session_stages.specs.declared.Stage.TheVariants as S
use Rattle.session_stages.specs.declared.Session.{Session}
use Rattle.session_stages.specs.declared.Answer.{Answer}
use Rattle.session_stages.specs.declared.Answer.TheVariants as A
use Rattle.session_stages.specs.World.{Best, world, turn_at, part_reading, operator_reading}

abbrev pub course_of : Course → Model.Session world
course_of c = walking c.job (spot_of c.spot) c.operator

-- the same job at its end
abbrev pub ended : Course → Course
ended c = record { job = c.job; spot = None; operator = c.operator }

abbrev pub stage_of : Stage → Model.Session world
stage_of (S.Early p) = early p
stage_of (S.Walking c) = course_of c

abbrev pub meaning : Session → Model.Session world
meaning s = stage_of s.stage

abbrev pub fresh : Session
fresh = record { stage = S.Early Nothing }

-- the scale of a whole job
abbrev pub scale_of : Model.Session world → ℕ
scale_of (early p) = 0
scale_of (walking j w o) = j.k

-- ---- answers, with the number of each refusal (SPEC, "Refusals"); a hand-out's with the lent slice as it is then
abbrev pub answer_of : List ℤ → Answer → Model.Answer world
answer_of l (A.Taken n) = taken n
answer_of l (A.Handed n e) = handed n e l
answer_of l A.Done = done
answer_of l (A.Says b) = says b
answer_of l (A.Least k u t) = best (record { scale = k; u = u; t = t })
answer_of l (A.Refused f) = refused (number f)

abbrev pub outcome : List ℤ → Session → Answer → Model.Outcome world
outcome l s a = (answer_of l a, meaning s)

-- the values of each case (SPEC, "Refusals"): the refusal's number, 0 where there is none; the bytes that a reading took; a hand-out's count and end; a question's yes or no; the
-- shortest pattern. "A refused reading takes 0 bytes; a refused hand-out counts 0, end not reached"
pub record Values : Type 0 where
  pub refusal : ℕ
  pub taken : ℕ
  pub count : ℕ
  pub end : Bool
  pub yes : Bool
  pub pattern : Option Best

abbrev pub values_of : Answer → Values
values_of (A.Taken n) = record { refusal = 0; taken = n; count = 0; end = false; yes = false; pattern = O.none }
values_of (A.Handed n e) = record { refusal = 0; taken = 0; count = n; end = e; yes = false; pattern = O.none }
values_of A.Done = record { refusal = 0; taken = 0; count = 0; end = false; yes = false; pattern = O.none }
values_of (A.Says b) = record { refusal = 0; taken = 0; count = 0; end = false; yes = b; pattern = O.none }
values_of (A.Least k u t) = record { refusal = 0; taken = 0; count = 0; end = false; yes = false; pattern = O.some (record { scale = k; u = u; t = t }) }
values_of (A.Refused f) = record { refusal = number f; taken = 0; count = 0; end = false; yes = false; pattern = O.none }

-- of the model's answers
abbrev pub values_by : Model.Answer world → Values
values_by (taken n) = record { refusal = 0; taken = n; count = 0; end = false; yes = false; pattern = O.none }
values_by (handed n e l) = record { refusal = 0; taken = 0; count = n; end = e; yes = false; pattern = O.none }
values_by done = record { refusal = 0; taken = 0; count = 0; end = false; yes = false; pattern = O.none }
values_by (says b) = record { refusal = 0; taken = 0; count = 0; end = false; yes = b; pattern = O.none }
values_by (best b) = record { refusal = 0; taken = 0; count = 0; end = false; yes = false; pattern = O.some b }
values_by (refused r) = record { refusal = r; taken = 0; count = 0; end = false; yes = false; pattern = O.none }

pub same-values : (l : List ℤ) (a : Answer) → values_of a ≡ values_by (answer_of l a)
same-values l (A.Taken n) = refl
same-values l (A.Handed n e) = refl
same-values l A.Done = refl
same-values l (A.Says b) = refl
same-values l (A.Least k u t) = refl
same-values l (A.Refused f) = refl

-- a call that finds s, leaves t and answers a, with the lent slice l (none: []), is a step of the model, and the answer has its values
pub record Steps (c : Call world) (l : List ℤ) (s t : Session) (a : Answer) : Type 0 where
  pub met : outcome l t a ≡ step world c (meaning s)
  pub values : values_of a ≡ values_by (step world c (meaning s)).0

pub steps : {c : Call world} {l : List ℤ} {s t : Session} {a : Answer} → outcome l t a ≡ step world c (meaning s) → Steps c l s t a
steps {l} {a} e = record { met = e; values = same-values l a ∙ ap (λ (o : Model.Outcome world). values_by o.0) e }

-- the same with the slice that it leaves
pub record Gives (o : Model.Outcome world) (old new : List ℤ) (t : Session) (a : Answer) : Type 0 where
  pub met : outcome new t a ≡ o
  pub values : values_of a ≡ values_by o.0
  pub slice : new ≡ lent world o.0 old

pub gives : {o : Model.Outcome world} {old new : List ℤ} {t : Session} {a : Answer} → outcome new t a ≡ o → new ≡ lent world o.0 old → Gives o old new t a
gives {new} {a} e f = record { met = e; values = same-values new a ∙ ap (λ (o : Model.Outcome world). values_by o.0) e; slice = f }

abbrev pub Hands : Session → List ℤ → List ℤ → Session → Answer → Type 0
Hands s old new t a = Gives (step world (handOut old) (meaning s)) old new t a

-- ---- one reading
abbrev pub turn_at_stage : Stage → Turn
turn_at_stage (S.Early p) = turn_at p
turn_at_stage (S.Walking c) = T.Operators

abbrev pub turn_of : Session → Turn
turn_of s = turn_at_stage s.stage

abbrev pub stage_outcome : Stage → D.Reading → Model.Outcome world
stage_outcome (S.Early p) r = joined world p (part_reading p r)
stage_outcome (S.Walking c) r = remembered world c.job (spot_of c.spot) c.operator (operator_reading r)

abbrev pub outcome_of : Session → D.Reading → Model.Outcome world
outcome_of s r = stage_outcome s.stage r

-- a refused reading changes nothing
pub refused_outcome : (g : Stage) (f : Refusal) → (refused (number f), stage_of g) ≡ stage_outcome g (RV.Refused f)
refused_outcome (S.Early p) f = refl
refused_outcome (S.Walking c) f = refl

-- a reading is a step of the model
pub reading_outcome : (g : Stage) (b : List ℕ) → step world (reading b) (stage_of g) ≡ stage_outcome g (reading_of b (turn_at_stage g))
reading_outcome (S.Early p) b = refl
reading_outcome (S.Walking c) b = refl

-- ---- a hand-out
-- nothing is left where an answer is yes
pub record EmptyIf (c : Course) (r : Bool) : Type 0 where
  pub none : r ≡ true → left_at (listed_at c.job) (top span) (spot_of c.spot) ≡ []

pub gave_gives : (c : Course) (spot : Maybe Point) (old new : List ℤ) (count : ℕ) (e : Bool)
    → Gave numbers_in 4 (left_at (listed_at c.job) (top span) (spot_of c.spot)) old (length old / 4) count new (spot_of spot) → e ≡ is_ended (spot_of spot)
    → Gives (given world c.job c.operator old (left_at (listed_at c.job) (top span) (spot_of c.spot))) old new (record { stage = S.Walking (record { job = c.job; spot = spot; operator = c.operator }) }) (A.Handed count e)
gave_gives c spot old new count e g h =
    let k = h ∙ ap is_ended g.place ∙ ended-nil (drop (length old / 4) (left_at (listed_at c.job) (top span) (spot_of c.spot))) in
    gives (λ i. (handed (g.count i) (k i) (g.slice i), walking c.job (g.place i) c.operator)) g.slice

pub course_hands : (c : Course) (v : Point) (old : List ℤ) → c.spot ≡ Some v
    → step world (handOut old) (course_of c) ≡ given world c.job c.operator old (left_at (listed_at c.job) (top span) (spot_of c.spot))
course_hands c v old e = rw e refl

pub empty_gives : (c : Course) (old : List ℤ) → left_at (listed_at c.job) (top span) (spot_of c.spot) ≡ []
    → Gives (given world c.job c.operator old (left_at (listed_at c.job) (top span) (spot_of c.spot))) old old (record { stage = S.Walking (ended c) }) (A.Handed 0 true)
empty_gives c old e = gave_gives c None old old 0 true (gave_none _ old _ e) refl
