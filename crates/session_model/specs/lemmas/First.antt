-- Demand 3: what was handed out since the last rewind or clearing is the beginning of the full list, in rising order, each point once.
-- Assumes nothing.
use Rattle.std.specs.Prelude.{◌≡◌, List, ℕ}
use Rattle.ranks.specs.Rest.{is_nil}
use Rattle.session_model.specs.Session.{World}
use Rattle.session_model.specs.Session.{Answer, refused, taken, handed, done, says, best}

module _ (W : World) where
  -- a hand-out that is not refused reports the end exactly when nothing is left
  abbrev pub Reports : Answer W → List ℕ → Type 0
  Reports (refused r) left = Unit {0}
  Reports (taken n) left = Unit {0}
  Reports (handed n e l) left = e ≡ is_nil left
  Reports done left = Unit {0}
  Reports (says b) left = Unit {0}
  Reports (best b) left = Unit {0}
