-- A session and the seven kinds of calls: SPEC, "Walk" and "Calls". The records' parser, the test of points, the operators
-- and the search for the shortest pattern are parameters.
use Rattle.std.specs.Prelude.{◌≡◌, Bool, true, false, not, List, [], ◌∷◌, ℕ, ◌/◌, eqb, ℤ, length, take, drop}
use Rattle.std.proofs.Math.Option.{Option}
use Rattle.std.proofs.Math.Option as O
use Rattle.refusals.specs.Refusals.{no_job, after_end, no_pattern}
use Rattle.ranks.specs.Handed.{put}
use Rattle.ranks.specs.Rest.{rest, Place, at, ended, is_nil, place_of}

-- one reading: refused with its number, or accepted with the bytes taken and what they mean
pub data Reading (A : Type 0) : Type 0 where
  refuse : ℕ → Reading A
  accept : ℕ → A → Reading A

-- what the job has so far: not all of scale, A and B, or all three
pub data Stage (Parts Job : Type 0) : Type 0 where
  part : Parts → Stage Parts Job
  whole : Job → Stage Parts Job

-- an operator reading begins with kind 04, accepted or refused
abbrev pub is_operator : List ℕ → Bool
is_operator [] = false
is_operator (k ∷ b) = eqb k 4

pub record World : Type 1 where
  pub Parts : Type 0
  pub Job : Type 0
  pub Operator : Type 0
  pub Point : Type 0
  pub Best : Type 0
  -- no job record; the operator that is remembered if none was accepted
  pub none : Parts
  pub identity : Operator
  -- a reading before scale, A and B are there, and one after
  pub readPart : List ℕ → Parts → Reading (Stage Parts Job)
  pub readOperator : List ℕ → Reading Operator
  -- the ranks of the points that a job lists are those below top that pass; the numbers of a rank's point, width of them
  pub test : Job → ℕ → Bool
  pub top : ℕ
  pub width : ℕ
  pub coords : ℕ → List ℤ
  pub image : Job → Operator → Point → Bool
  -- the shortest pattern of a job, if there is one: SPEC, "Shortest pattern"
  pub least : Job → Option Best
  pub wide : (r : ℕ) → length (coords r) ≡ width
  -- the turn: operators come after scale, A and B, and nothing else does
  pub turn-part : (b : List ℕ) (p : Parts) → is_operator b ≡ true → (r : ℕ) × (readPart b p ≡ refuse r)
  pub turn-operator : (b : List ℕ) → is_operator b ≡ false → (r : ℕ) × (readOperator b ≡ refuse r)

module _ (W : World) where
  open W use {Parts, Job, Operator, Point, Best, none, identity, readPart, readOperator, test, top, width, coords, image, least}

  pub data Call : Type 0 where
    reading : List ℕ → Call
    handOut : List ℤ → Call
    rewind : Call
    clear : Call
    plain : Call
    image_of : Point → Call
    shortest : Call

  -- a hand-out answers its count, its end, and the lent slice as it is then
  pub data Answer : Type 0 where
    refused : ℕ → Answer
    taken : ℕ → Answer
    handed : ℕ → Bool → List ℤ → Answer
    done : Answer
    says : Bool → Answer
    best : Best → Answer

  -- before scale, A and B are all there, and then with the place of the walk and the remembered operator
  pub data Session : Type 0 where
    early : Parts → Session
    walking : Job → Place → Operator → Session

  abbrev pub Outcome : Type 0
  Outcome = Answer × Session

  -- all points that the job lists, in point order
  abbrev pub full : Job → List ℕ
  full j = rest (test j) top 0

  -- the space: the length over the width, rounded down
  abbrev pub space : List ℤ → ℕ
  space l = length l / width

  abbrev pub fresh : Session
  fresh = early none

  abbrev start : Stage Parts Job → Session
  start (part p) = early p
  start (whole j) = walking j (at 0) identity

  abbrev pub joined : Parts → Reading (Stage Parts Job) → Outcome
  joined p (refuse r) = (refused r, early p)
  joined p (accept n s) = (taken n, start s)

  abbrev pub remembered : Job → Place → Operator → Reading Operator → Outcome
  remembered j w o (refuse r) = (refused r, walking j w o)
  remembered j w o (accept n o') = (taken n, walking j w o')

  abbrev pub given : Job → Operator → List ℤ → List ℕ → Outcome
  given j o l left = (
    handed (length (take (space l) left)) (is_nil (drop (space l) left)) (put coords width (take (space l) left) l),
    walking j (place_of (drop (space l) left)) o,
  )

  abbrev pub found : Option Best → Answer
  found O.none = refused no_pattern
  found (O.some b) = best b

  abbrev pub step : Call → Session → Outcome
  step clear s = (done, fresh)
  step (reading b) (early p) = joined p (readPart b p)
  step (handOut l) (early p) = (refused no_job, early p)
  step rewind (early p) = (refused no_job, early p)
  step plain (early p) = (refused no_job, early p)
  step (image_of v) (early p) = (refused no_job, early p)
  step shortest (early p) = (refused no_job, early p)
  step (reading b) (walking j w o) = remembered j w o (readOperator b)
  step (handOut l) (walking j ended o) = (refused after_end, walking j ended o)
  step (handOut l) (walking j (at p) o) = given j o l (rest (test j) top p)
  step rewind (walking j w o) = (done, walking j (at 0) o)
  step plain (walking j w o) = (says (not (is_nil (full j))), walking j w o)
  step (image_of v) (walking j w o) = (says (image j o v), walking j w o)
  step shortest (walking j w o) = (found (least j), walking j w o)

  -- the first call finds a fresh session, every other one what the call before it left: the answers, and the session that is left
  abbrev pub answers : Session → List Call → List Answer
  answers s [] = []
  answers s (c ∷ cs) = (step c s).0 ∷ answers (step c s).1 cs

  abbrev pub after : Session → List Call → Session
  after s [] = s
  after s (c ∷ cs) = after (step c s).1 cs

  abbrev pub is_refused : Answer → Bool
  is_refused (refused r) = true
  is_refused (taken n) = false
  is_refused (handed n e l) = false
  is_refused done = false
  is_refused (says b) = false
  is_refused (best b) = false

  -- a lent slice as a call leaves it
  abbrev pub lent : Answer → List ℤ → List ℤ
  lent (refused r) l = l
  lent (taken n) l = l
  lent (handed n e l') l = l'
  lent done l = l
  lent (says b) l = l
  lent (best b) l = l
