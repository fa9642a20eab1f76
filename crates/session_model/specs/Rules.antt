-- The rules of SPEC, "Calls": which calls are refused, and each hand-out's count, end and slice, from the calls' arguments alone.
-- They know no place and no operator: only the job, the total and the end.
use Rattle.std.specs.Prelude.{Bool, true, false, List, [], ◌∷◌, ℕ, zero, suc, ◌+◌, ◌-◌, min, ℤ, length, take, drop}
use Rattle.std.proofs.Math.Option.{Option}
use Rattle.std.proofs.Math.Option as O
use Rattle.refusals.specs.Refusals.{no_job, after_end, no_pattern}
use Rattle.ranks.specs.Handed.{put}
use Rattle.session_model.specs.Session.{World, Reading, refuse, accept, Stage, part, whole}
use Rattle.session_model.specs.Session.{Call, reading, handOut, rewind, clear, plain, image_of, shortest, Answer, refused, taken, handed, done, says, best, full, space}

-- what the rules say of a call: refused with its number; a hand-out's count, end and slice; or not refused
pub data Verdict : Type 0 where
  refusal : ℕ → Verdict
  handing : ℕ → Bool → List ℤ → Verdict
  passed : Verdict

abbrev pub is_zero : ℕ → Bool
is_zero zero = true
is_zero (suc n) = false

module _ (W : World) where
  open W use {Parts, Job, Operator, Best, none, readPart, readOperator, width, coords, least}

  -- what an answer shows of it
  abbrev pub verdict : Answer W → Verdict
  verdict (refused r) = refusal r
  verdict (taken n) = passed
  verdict (handed n e l) = handing n e l
  verdict done = passed
  verdict (says b) = passed
  verdict (best b) = passed

  pub record Known : Type 0 where
    pub job : Stage Parts Job
    pub total : ℕ
    pub end : Bool

  abbrev pub Ruling : Type 0
  Ruling = Verdict × Known

  -- Start: no record, total 0, end no
  abbrev pub begin : Known
  begin = record { job = part none; total = 0; end = false }

  -- Reading: an accepted scale, selection or region joins the job
  abbrev pub join : Known → Reading (Stage Parts Job) → Ruling
  join t (refuse r) = (refusal r, t)
  join t (accept n j) = (passed, record { job = j; total = t.total; end = t.end })

  -- an accepted operator changes nothing here
  abbrev pub pass : Known → Reading Operator → Ruling
  pass t (refuse r) = (refusal r, t)
  pass t (accept n o) = (passed, t)

  -- what is left: its length less the total
  abbrev pub left : Job → ℕ → ℕ
  left j total = length (full W j) - total

  -- Hand-out: written are that many points of the full list, from the one after the first total ones; the total grows by the count; end is yes exactly when
  -- none is left then, and is answered so
  abbrev pub deal : Job → ℕ → List ℤ → ℕ → Ruling
  deal j total l count = (
    handing count (is_zero (left j (total + count))) (put coords width (take count (drop total (full W j))) l),
    record { job = whole j; total = total + count; end = is_zero (left j (total + count)) },
  )

  -- Hand-out: refused 10 while end is yes, and nothing changes; else the count is the lesser of the space and what is left
  abbrev pub hand_rule : Job → List ℤ → ℕ → Bool → Ruling
  hand_rule j l total true = (refusal after_end, record { job = whole j; total = total; end = true })
  hand_rule j l total false = deal j total l (min (space W l) (left j total))

  -- Shortest: refused 14 where there is none
  abbrev pub find_rule : Option Best → Verdict
  find_rule O.none = refusal no_pattern
  find_rule (O.some b) = passed

  abbrev pub rule_at : Call W → Stage Parts Job → Known → Ruling
  -- Clearing: as at the start
  rule_at clear j t = (passed, begin)
  -- Reading: refused where one of the refusals 1 to 8 holds, and then nothing changes; else accepted
  rule_at (reading b) (part p) t = join t (readPart b p)
  rule_at (reading b) (whole j) t = pass t (readOperator b)
  -- Hand-out: refused 9 until scale, A and B are there
  rule_at (handOut l) (part p) t = (refusal no_job, t)
  rule_at (handOut l) (whole j) t = hand_rule j l t.total t.end
  -- Rewind: refused 9 until then, and nothing changes; else total 0, end no
  rule_at rewind (part p) t = (refusal no_job, t)
  rule_at rewind (whole j) t = (passed, record { job = whole j; total = 0; end = false })
  -- Questions: refused 9 until then; either way nothing changes
  rule_at plain (part p) t = (refusal no_job, t)
  rule_at plain (whole j) t = (passed, t)
  rule_at (image_of v) (part p) t = (refusal no_job, t)
  rule_at (image_of v) (whole j) t = (passed, t)
  -- Shortest: refused 9 until then; either way nothing changes
  rule_at shortest (part p) t = (refusal no_job, t)
  rule_at shortest (whole j) t = (find_rule (least j), t)

  abbrev pub rule : Call W → Known → Ruling
  rule c t = rule_at c t.job t

  abbrev pub verdicts : Known → List (Call W) → List Verdict
  verdicts t [] = []
  verdicts t (c ∷ cs) = (rule c t).0 ∷ verdicts (rule c t).1 cs

  -- what the rules know after a list of calls
  abbrev pub known_after : Known → List (Call W) → Known
  known_after t [] = t
  known_after t (c ∷ cs) = known_after (rule c t).1 cs
