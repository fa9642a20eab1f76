-- A session of trays and the four kinds of calls: SPEC, "Trays". What a take reads and which points a tray lists are parameters.
use Rattle.std.specs.Prelude.{◌≡◌, Bool, true, false, List, [], ◌∷◌, ℕ, ◌/◌, ℤ, length, take, drop}
use Rattle.refusals.specs.Refusals.{no_job, after_end}
use Rattle.ranks.specs.Handed.{put}
use Rattle.ranks.specs.Rest.{rest, Place, at, ended, is_nil, place_of}

-- one take: refused with its number, or accepted with the number of regions and the tray
pub data Taking (A : Type 0) : Type 0 where
  refuse : ℕ → Taking A
  accept : ℕ → A → Taking A

pub record World : Type 1 where
  pub Tray : Type 0
  -- what a take is given
  pub Given : Type 0
  pub takes : Given → Taking Tray
  -- the ranks of the points that a tray lists are those below top that pass; the numbers of a rank's point, width of them
  pub test : Tray → ℕ → Bool
  pub top : ℕ
  pub width : ℕ
  pub coords : Tray → ℕ → List ℤ
  pub wide : (t : Tray) (r : ℕ) → length (coords t r) ≡ width

module _ (W : World) where
  open W use {Tray, Given, takes, test, top, width, coords}

  pub data Call : Type 0 where
    taking : Given → Call
    handOut : List ℤ → Call
    rewind : Call
    clear : Call

  -- a hand-out answers its count, its end, and the lent slice as it is then
  pub data Answer : Type 0 where
    refused : ℕ → Answer
    taken : ℕ → Answer
    handed : ℕ → Bool → List ℤ → Answer
    done : Answer

  -- before a tray is taken, and then with the place of the walk
  pub data Session : Type 0 where
    early : Session
    walking : Tray → Place → Session

  abbrev pub Outcome : Type 0
  Outcome = Answer × Session

  -- all points that the tray lists, in point order
  abbrev pub full : Tray → List ℕ
  full t = rest (test t) top 0

  -- the space: the length over the width, rounded down
  abbrev pub space : List ℤ → ℕ
  space l = length l / width

  -- a tray taken replaces the one there and starts anew; a refused take changes nothing
  abbrev pub begun : Session → Taking Tray → Outcome
  begun s (refuse r) = (refused r, s)
  begun s (accept n t) = (taken n, walking t (at 0))

  abbrev pub given : Tray → List ℤ → List ℕ → Outcome
  given t l left = (
    handed (length (take (space l) left)) (is_nil (drop (space l) left)) (put (coords t) width (take (space l) left) l),
    walking t (place_of (drop (space l) left)),
  )

  abbrev pub step : Call → Session → Outcome
  step clear s = (done, early)
  step (taking x) s = begun s (takes x)
  step (handOut l) early = (refused no_job, early)
  step (handOut l) (walking t ended) = (refused after_end, walking t ended)
  step (handOut l) (walking t (at p)) = given t l (rest (test t) top p)
  step rewind early = (refused no_job, early)
  step rewind (walking t w) = (done, walking t (at 0))

  -- the first call finds a session without a tray, every other one what the call before it left: the answers, and the session that is left
  abbrev pub answers : Session → List Call → List Answer
  answers s [] = []
  answers s (c ∷ cs) = (step c s).0 ∷ answers (step c s).1 cs

  abbrev pub after : Session → List Call → Session
  after s [] = s
  after s (c ∷ cs) = after (step c s).1 cs

  abbrev pub is_refused : Answer → Bool
  is_refused (refused r) = true
  is_refused (taken n) = false
  is_refused (handed n e l) = false
  is_refused done = false

  -- a lent slice as a call leaves it
  abbrev pub lent : Answer → List ℤ → List ℤ
  lent (refused r) l = l
  lent (taken n) l = l
  lent (handed n e l') l = l'
  lent done l = l
