-- What was handed out since the last rewind or clearing: SPEC, "Calls".
use Rattle.std.specs.Prelude.{Bool, false, not, cond, List, [], ◌∷◌, ◌++◌, ℕ, ◌+◌, ◌*◌, ℤ, take, drop}
use Rattle.session_model.specs.Session.{World, Call, reading, handOut, rewind, clear, plain, image_of, shortest, Answer, refused, taken, handed, done, says, best}
use Rattle.session_model.specs.Session.{full, space, Session, early, walking, fresh, step, after, is_refused}

module _ (W : World) where
  open W use {width}

  -- a call and its answer
  abbrev pub Exchange : Type 0
  Exchange = Call W × Answer W

  abbrev pub exchanges : Session W → List (Call W) → List Exchange
  exchanges s [] = []
  exchanges s (c ∷ cs) = (c, (step W c s).0) ∷ exchanges (step W c s).1 cs

  abbrev pub restarts : Call W → Answer W → Bool
  restarts (reading b) a = false
  restarts (handOut l) a = false
  restarts rewind a = not (is_refused W a)
  restarts clear a = not (is_refused W a)
  restarts plain a = false
  restarts (image_of v) a = false
  restarts shortest a = false

  -- since the last rewind or clearing that was not refused, or the start of the list: what of seen and then xs has come since then
  abbrev pub since_after : List Exchange → List Exchange → List Exchange
  since_after seen [] = seen
  since_after seen (x ∷ xs) = since_after (cond (restarts x.0 x.1) [] (seen ++ (x ∷ []))) xs

  abbrev pub since : List (Call W) → List Exchange
  since cs = since_after [] (exchanges (fresh W) cs)

  -- points handed out: the first width × count numbers of each slice as its hand-out returns, in the order of the hand-outs; none of a refused one
  abbrev pub written : Answer W → List ℤ
  written (refused r) = []
  written (taken n) = []
  written (handed n e l) = take (width * n) l
  written done = []
  written (says b) = []
  written (best b) = []

  abbrev pub points : List Exchange → List ℤ
  points [] = []
  points (x ∷ xs) = written x.1 ++ points xs

  -- the space there was: the spaces of the hand-outs that were not refused, added up
  abbrev pub lent_space : Call W → Answer W → ℕ
  lent_space (reading b) a = 0
  lent_space (handOut l) a = cond (is_refused W a) 0 (space W l)
  lent_space rewind a = 0
  lent_space clear a = 0
  lent_space plain a = 0
  lent_space (image_of v) a = 0
  lent_space shortest a = 0

  abbrev pub spaces : List Exchange → ℕ
  spaces [] = 0
  spaces (x ∷ xs) = lent_space x.0 x.1 + spaces xs

  -- the full list: all points that the job lists, in point order, once scale, A and B are there, and none before
  abbrev pub full_of : Session W → List ℕ
  full_of (early p) = []
  full_of (walking j w o) = full W j

  -- what is left of it after a list of calls
  abbrev pub remains_after : List (Call W) → List ℕ
  remains_after cs = drop (spaces (since cs)) (full_of (after W (fresh W) cs))
