-- What a call does to the bench's session: a step of the model of `session_model`, and a change of the counts. SPEC, "Tally".
use Rattle.std.specs.Prelude.{◌≡◌, cond, List, ℕ, ◌*◌, ◌≤◌, ℤ, length, take}
use Rattle.region.specs.declared.Job.{Job}
use Rattle.ranks.specs.Handed.{flat}
use Rattle.walk_list.specs.Walk.{numbers_in, listed_at}
use Rattle.session_model.specs.Session.{Call, reading, handOut, rewind, clear, plain, image_of, shortest, refused, taken, handed, done, says, best, early, walking, step, is_refused}
use Rattle.session_model.specs.Session as Model
use Rattle.session_tally.specs.declared.Tally.{Tally}
use Rattle.ring_points.specs.Ascending.{Passing}
use Rattle.ring_points.specs.Slices.{points_of}
use Rattle.session_tally.specs.Spread.{spread, added, nothing}
use Rattle.session_stages.specs.declared.Answer.{Answer}
use Rattle.session_stages.specs.World.{world}
use Rattle.session_stages.specs.Session.{meaning, answer_of, scale_of, Steps, Hands}
use Rattle.session_stages.specs.Session as S
use Rattle.session_tallying.specs.declared.Tallied.{Tallied}

abbrev pub fresh : Tallied
fresh = record { session = S.fresh; tally = nothing }

-- the points of these numbers are counted, each by its exponent
abbrev pub raised : ℕ → List ℤ → Tally → Tally
raised k l t = record { counts = added (spread k (points_of l)) t.counts }

-- a hand-out's points are counted: its first 4 × count numbers; a refused one has none
abbrev pub grown : Model.Answer world → ℕ → Tally → Tally
grown (refused r) k t = t
grown (taken n) k t = t
grown (handed n e l) k t = raised k (take (4 * n) l) t
grown done k t = t
grown (says b) k t = t
grown (best b) k t = t

-- the counts after a call that was answered a, of a session with the scale k: a rewind or a clearing that is not refused sets them to 0, and no other call but a hand-out touches them
abbrev pub tally_after : Call world → Model.Answer world → ℕ → Tally → Tally
tally_after (reading b) a k t = t
tally_after (handOut l) a k t = grown a k t
tally_after rewind a k t = cond (is_refused world a) t nothing
tally_after clear a k t = nothing
tally_after plain a k t = t
tally_after (image_of v) a k t = t
tally_after shortest a k t = t

-- a call that finds b, leaves d and answers a, with the lent slice l (none: [])
pub record Moves (c : Call world) (l : List ℤ) (b d : Tallied) (a : Answer) : Type 0 where
  pub met : Steps c l b.session d.session a
  pub tally : d.tally ≡ tally_after c (answer_of l a) (scale_of (meaning b.session)) b.tally

-- a hand-out, with the slice that it leaves
pub record Deals (b : Tallied) (old new : List ℤ) (d : Tallied) (a : Answer) : Type 0 where
  pub met : Hands b.session old new d.session a
  pub tally : d.tally ≡ tally_after (handOut old) (answer_of new a) (scale_of (meaning b.session)) b.tally

-- ---- what a hand-out writes
-- the first n points of the slice are listed by the job
pub record DealtBy (j : Job) (new : List ℤ) (n : ℕ) : Type 0 where
  pub ranks : List ℕ
  pub count : n ≡ length ranks
  pub room : 4 * n ≤ length new
  pub numbers : take (4 * n) new ≡ flat numbers_in ranks
  pub passing : Passing (listed_at j) ranks

abbrev pub Dealt : Model.Session world → List ℤ → ℕ → Type 0
Dealt (early p) new n = ⊥
Dealt (walking j w o) new n = DealtBy j new n

-- the answer to a hand-out, with the slice as it is then
pub record Handing (m : Model.Session world) (new : List ℤ) (a : Answer) : Type 0 where
  pub old : List ℤ
  pub same : length new ≡ length old
  pub met : answer_of new a ≡ (step world (handOut old) m).0
