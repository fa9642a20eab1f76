-- The rules of a list of calls on a tray, from the calls' arguments alone: they know no place, only the tray, the total and the end.
use Rattle.std.specs.Prelude.{Bool, true, false, List, [], ◌∷◌, ℕ, zero, suc, ◌+◌, ◌-◌, min, ℤ, length, take, drop}
use Rattle.std.proofs.Math.Option.{Option}
use Rattle.std.proofs.Math.Option as O
use Rattle.refusals.specs.Refusals.{no_job, after_end}
use Rattle.ranks.specs.Handed.{put}
use Rattle.tray_model.specs.Session.{World, Taking, refuse, accept, Call, taking, handOut, rewind, clear, Answer, refused, taken, handed, done, full, space}

abbrev pub is_zero : ℕ → Bool
is_zero zero = true
is_zero (suc n) = false

module _ (W : World) where
  open W use {Tray, takes, width, coords}

  pub record Known : Type 0 where
    pub tray : Option Tray
    pub total : ℕ
    pub end : Bool

  abbrev pub Ruling : Type 0
  Ruling = Answer W × Known

  -- Start: no tray, total 0, end no
  abbrev pub begin : Known
  begin = record { tray = O.none; total = 0; end = false }

  -- a tray taken: total 0, end no
  abbrev pub fresh : Tray → Known
  fresh t = record { tray = O.some t; total = 0; end = false }

  -- Take: refused, and nothing changes; else the tray replaces the one there
  abbrev pub take_rule : Known → Taking Tray → Ruling
  take_rule y (refuse r) = (refused r, y)
  take_rule y (accept n t) = (taken n, fresh t)

  -- what is left: its length less the total
  abbrev pub left : Tray → ℕ → ℕ
  left t total = length (full W t) - total

  -- Hand-out: written are that many points of the full list, from the one after the first total ones; the total grows by the count; end is yes exactly when
  -- none is left then, and is answered so
  abbrev pub deal : Tray → ℕ → List ℤ → ℕ → Ruling
  deal t total l count = (
    handed count (is_zero (left t (total + count))) (put (coords t) width (take count (drop total (full W t))) l),
    record { tray = O.some t; total = total + count; end = is_zero (left t (total + count)) },
  )

  -- Hand-out: refused 10 while end is yes, and nothing changes; else the count is the lesser of the space and what is left
  abbrev pub hand_rule : Tray → List ℤ → ℕ → Bool → Ruling
  hand_rule t l total true = (refused after_end, record { tray = O.some t; total = total; end = true })
  hand_rule t l total false = deal t total l (min (space W l) (left t total))

  abbrev pub rule_at : Call W → Option Tray → Known → Ruling
  -- Clearing: as at the start
  rule_at clear o y = (done, begin)
  rule_at (taking x) o y = take_rule y (takes x)
  -- Hand-out and rewind: refused 9 until a tray is taken, and nothing changes
  rule_at (handOut l) O.none y = (refused no_job, y)
  rule_at (handOut l) (O.some t) y = hand_rule t l y.total y.end
  rule_at rewind O.none y = (refused no_job, y)
  rule_at rewind (O.some t) y = (done, fresh t)

  abbrev pub rule : Call W → Known → Ruling
  rule c y = rule_at c y.tray y

  -- the answers that the rules give
  abbrev pub ruled : Known → List (Call W) → List (Answer W)
  ruled y [] = []
  ruled y (c ∷ cs) = (rule c y).0 ∷ ruled (rule c y).1 cs
