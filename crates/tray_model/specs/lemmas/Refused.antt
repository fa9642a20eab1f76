-- A refused call is as if it had not been made.
-- Assumes nothing.
use Rattle.std.specs.Prelude.{◌≡◌, cond, List, [], ◌∷◌}
use Rattle.tray_model.specs.Session.{World, Call, Answer, is_refused}
use Rattle.tray_model.specs.Session.{Session, step, answers, after}

module _ (W : World) where
  -- the calls that are not refused, and their answers
  abbrev pub unrefused : Session W → List (Call W) → List (Call W)
  unrefused s [] = []
  unrefused s (c ∷ cs) = cond (is_refused W (step W c s).0) (unrefused (step W c s).1 cs) (c ∷ unrefused (step W c s).1 cs)

  abbrev pub granted : List (Answer W) → List (Answer W)
  granted [] = []
  granted (a ∷ l) = cond (is_refused W a) (granted l) (a ∷ granted l)

  pub record NotMade (s : Session W) (cs : List (Call W)) : Type 0 where
    pub same-answers : answers W s (unrefused s cs) ≡ granted (answers W s cs)
    pub same-session : after W s (unrefused s cs) ≡ after W s cs
