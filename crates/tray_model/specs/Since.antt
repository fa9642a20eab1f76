-- What was handed out since the last take, rewind or clearing.
use Rattle.std.specs.Prelude.{Bool, false, not, cond, List, [], ◌∷◌, ◌++◌, ℕ, ◌+◌, ◌*◌, ℤ, take, drop}
use Rattle.ranks.specs.Handed.{flat}
use Rattle.tray_model.specs.Session.{World, Call, taking, handOut, rewind, clear, Answer, refused, taken, handed, done, full, space, Session, early, walking, step, after, is_refused}

module _ (W : World) where
  open W use {width, coords}

  -- a call and its answer
  abbrev pub Exchange : Type 0
  Exchange = Call W × Answer W

  abbrev pub exchanges : Session W → List (Call W) → List Exchange
  exchanges s [] = []
  exchanges s (c ∷ cs) = (c, (step W c s).0) ∷ exchanges (step W c s).1 cs

  abbrev pub restarts : Call W → Answer W → Bool
  restarts (taking x) a = not (is_refused W a)
  restarts (handOut l) a = false
  restarts rewind a = not (is_refused W a)
  restarts clear a = not (is_refused W a)

  -- since the last take, rewind or clearing that was not refused, or the start of the list: what of seen and then xs has come since then
  abbrev pub since_after : List Exchange → List Exchange → List Exchange
  since_after seen [] = seen
  since_after seen (x ∷ xs) = since_after (cond (restarts x.0 x.1) [] (seen ++ (x ∷ []))) xs

  abbrev pub since : List (Call W) → List Exchange
  since cs = since_after [] (exchanges early cs)

  -- points handed out: the first width × count numbers of each slice as its hand-out returns, in the order of the hand-outs; none of a refused one
  abbrev pub written : Answer W → List ℤ
  written (refused r) = []
  written (taken n) = []
  written (handed n e l) = take (width * n) l
  written done = []

  abbrev pub points : List Exchange → List ℤ
  points [] = []
  points (x ∷ xs) = written x.1 ++ points xs

  -- the space there was: the spaces of the hand-outs that were not refused, added up
  abbrev pub lent_space : Call W → Answer W → ℕ
  lent_space (taking x) a = 0
  lent_space (handOut l) a = cond (is_refused W a) 0 (space W l)
  lent_space rewind a = 0
  lent_space clear a = 0

  abbrev pub spaces : List Exchange → ℕ
  spaces [] = 0
  spaces (x ∷ xs) = lent_space x.0 x.1 + spaces xs

  -- the full list of the tray, and none before one is taken
  abbrev pub full_of : Session W → List ℕ
  full_of early = []
  full_of (walking t w) = full W t

  -- the numbers of some of its points
  abbrev pub numbers : Session W → List ℕ → List ℤ
  numbers early l = []
  numbers (walking t w) l = flat (coords t) l

  -- what is left of it after a list of calls
  abbrev pub remains_after : List (Call W) → List ℕ
  remains_after cs = drop (spaces (since cs)) (full_of (after W early cs))
