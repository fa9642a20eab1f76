-- A walk is finished once a hand-out has reported the end: then all of the full list was handed out since the last rewind or clearing.
-- Assumes nothing.
use Rattle.std.specs.Prelude.{◌≡◌, Bool, true, false, cond, List, [], ◌∷◌, ℤ}
use Rattle.ranks.specs.Rest.{Place}
use Rattle.ranks.specs.Handed.{flat}
use Rattle.session_model.specs.Session.{World}
use Rattle.session_model.specs.Session.{Answer, refused, taken, handed, done, says, best}
use Rattle.session_model.specs.Session.{full, Session, walking}
use Rattle.session_model.specs.Since.{Exchange}

module _ (W : World) where
  open W use {Job, Operator, coords}

  -- a hand-out's answer whose end is yes
  abbrev pub says_end : Answer W → Bool
  says_end (refused r) = false
  says_end (taken n) = false
  says_end (handed n e l) = e
  says_end done = false
  says_end (says b) = false
  says_end (best b) = false

  -- one of these hand-outs reported the end
  abbrev pub reported : List (Exchange W) → Bool
  reported [] = false
  reported (x ∷ xs) = cond (says_end x.1) true (reported xs)

  -- what is known of such a session: all was handed out
  pub record Complete (s : Session W) (ps : List ℤ) : Type 0 where
    pub job : Job
    pub place : Place
    pub operator : Operator
    pub stands : s ≡ walking job place operator
    pub all : ps ≡ flat coords (full W job)
