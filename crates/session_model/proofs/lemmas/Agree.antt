-- The answers to a list of calls are what the rules give.
-- Assumes nothing.
use Rattle.std.specs.Prelude.{◌≡◌, refl, false, List, [], ◌∷◌, map, ℕ, zero, suc, ◌+◌, ◌-◌, ◌≤◌, min, ℤ, length, take, drop}
use Rattle.std.proofs.Common.{sym, ap, ap₂, ◌∙◌, arith, length-take, length-drop, drop-drop}
use Rattle.std.proofs.Math.Option.{Option}
use Rattle.std.proofs.Math.Option as O
use Rattle.std.proofs.Math.Nat.{zero-min, min-zero, suc-min-suc}
use Rattle.ranks.specs.Rest.{rest, Place, at, ended, is_ended, is_nil, place_of, left_at}
use Rattle.ranks.proofs.Rest.{ended-nil, left-place}
use Rattle.session_model.specs.Session.{World, Reading, refuse, accept, Stage, part, whole}
use Rattle.session_model.specs.Session.{Call, reading, handOut, rewind, clear, plain, image_of, shortest}
use Rattle.session_model.specs.Session.{full, space, Session, early, walking, fresh, Outcome, joined, remembered, given, found, step, answers, after}
use Rattle.session_model.specs.Rules.{is_zero, verdict, Known, Ruling, begin, join, pass, deal, find_rule, rule, verdicts, known_after}
use Rattle.session_model.specs.lemmas.Agree.{job_of}

take_min : (n : ℕ) (l : List ℕ) → take (min n (length l)) l ≡ take n l
take_min zero l = rw zero-min
take_min (suc n) [] = rw min-zero
take_min (suc n) (x ∷ l) = rw (suc-min-suc n (length l)) (ap (λ (t : List ℕ). x ∷ t) (take_min n l))

drop_min : (n : ℕ) (l : List ℕ) → drop (min n (length l)) l ≡ drop n l
drop_min zero l = rw zero-min
drop_min (suc n) [] = rw min-zero
drop_min (suc n) (x ∷ l) = rw (suc-min-suc n (length l)) (drop_min n l)

nil_length : (l : List ℕ) → is_nil l ≡ is_zero (length l)
nil_length [] = refl
nil_length (x ∷ l) = refl

module _ (W : World) where
  open W use {Parts, Job, Operator, Best, none, identity, readPart, readOperator, test, top, least}

  -- a session and a tally that stand at the same point of the same job
  data Follows : Session W → Known W → Type 0 where
    soon : (p : Parts) → Follows (early p) (record { job = part p; total = 0; end = false })
    along : (j : Job) (w : Place) (o : Operator) (n : ℕ) → n ≤ length (full W j) → left_at (test j) top w ≡ drop n (full W j)
        → Follows (walking j w o) (record { job = whole j; total = n; end = is_ended w })

  -- an outcome that is what the rules give
  record Meets (o : Outcome W) (r : Ruling W) : Type 0 where
    same : verdict W o.0 ≡ r.0
    next : Follows o.1 r.1

  joins : (p : Parts) (r : Reading (Stage Parts Job)) → Meets (joined W p r) (join W (record { job = part p; total = 0; end = false }) r)
  joins p (refuse r) = record { same = refl; next = soon p }
  joins p (accept n (part q)) = record { same = refl; next = soon q }
  joins p (accept n (whole j)) = record { same = refl; next = along j (at 0) identity 0 (omega arith) refl }

  passes : (j : Job) (w : Place) (o : Operator) (n : ℕ) → n ≤ length (full W j) → left_at (test j) top w ≡ drop n (full W j)
      → (r : Reading Operator) → Meets (remembered W j w o r) (pass W (record { job = whole j; total = n; end = is_ended w }) r)
  passes j w o n h e (refuse r) = record { same = refl; next = along j w o n h e }
  passes j w o n h e (accept m o') = record { same = refl; next = along j w _ n h e }

  gives : (j : Job) (o : Operator) (l : List ℤ) (left : List ℕ) (n : ℕ) → n ≤ length (full W j) → left ≡ drop n (full W j)
      → left_at (test j) top (place_of (drop (space W l) left)) ≡ drop (space W l) left
      → Meets (given W j o l left) (deal W j n l (min (space W l) (length (full W j) - n)))
  gives j o l left n h e keeps =
      let F = full W j in
      let k = space W l in
      let m = min k (length F - n) in
      let size : length left ≡ length F - n = ap length e ∙ length-drop n F in
      let count : length (take k left) ≡ m = length-take k left ∙ ap (min k) size in
      let points : take m (drop n F) ≡ take k left = rw (← size, ← e) (take_min k left) in
      let behind : drop (n + m) F ≡ drop k left = sym (drop-drop m n F) ∙ rw (← size, ← e) (drop_min k left) in
      let less : length (drop k left) ≡ length F - (n + m) = length-drop k left ∙ omega arith in
      let end : is_nil (drop k left) ≡ is_zero (length F - (n + m)) = nil_length (drop k left) ∙ ap is_zero less in
      let f = along j (place_of (drop k left)) o (n + m) (omega arith) (keeps ∙ sym behind) in
      record { same = cc; next = rw (ended-nil (drop k left) ∙ end) at f }

  finds : (x : Option Best) → verdict W (found W x) ≡ find_rule W x
  finds O.none = refl
  finds (O.some b) = refl

  agrees : (c : Call W) {s : Session W} {t : Known W} → Follows s t → Meets (step W c s) (rule W c t)
  agrees clear f = record { same = refl; next = soon none }
  agrees (reading b) (soon p) = joins p (readPart b p)
  agrees (handOut l) (soon p) = record { same = refl; next = soon p }
  agrees rewind (soon p) = record { same = refl; next = soon p }
  agrees plain (soon p) = record { same = refl; next = soon p }
  agrees (image_of v) (soon p) = record { same = refl; next = soon p }
  agrees shortest (soon p) = record { same = refl; next = soon p }
  agrees (reading b) (along j w o n h e) = passes j w o n h e (readOperator b)
  agrees (handOut l) (along j ended o n h e) = record { same = refl; next = along j ended o n h e }
  agrees (handOut l) (along j (at p) o n h e) = gives j o l (rest (test j) top p) n h e (left-place (test j) top (space W l) p)
  agrees rewind (along j w o n h e) = record { same = refl; next = along j (at 0) _ 0 (omega arith) refl }
  agrees plain (along j w o n h e) = record { same = refl; next = along j w o n h e }
  agrees (image_of v) (along j w o n h e) = record { same = refl; next = along j w o n h e }
  agrees shortest (along j w o n h e) = record { same = finds (least j); next = along j w o n h e }

  all-agree : (cs : List (Call W)) {s : Session W} {t : Known W} → Follows s t → map (verdict W) (answers W s cs) ≡ verdicts W t cs
  all-agree [] f = refl
  all-agree (c ∷ cs) f = let a = agrees c f in ap₂ ◌∷◌ a.same (all-agree cs a.next)

  -- refusals, and each hand-out's count, end and points, are those of the rules, from the calls' arguments alone
  pub whole-list : (cs : List (Call W)) → map (verdict W) (answers W (fresh W) cs) ≡ verdicts W (begin W) cs
  whole-list cs = all-agree cs (soon none)

  all-follow : (cs : List (Call W)) {s : Session W} {t : Known W} → Follows s t → Follows (after W s cs) (known_after W t cs)
  all-follow [] f = f
  all-follow (c ∷ cs) f = all-follow cs (agrees c f).next

  same-job : {s : Session W} {t : Known W} → Follows s t → t.job ≡ job_of W s
  same-job (soon p) = refl
  same-job (along j w o n h e) = refl

  -- Reading: an accepted scale, selection or region joins the job
  pub whole-job : (cs : List (Call W)) → (known_after W (begin W) cs).job ≡ job_of W (after W (fresh W) cs)
  whole-job cs = same-job (all-follow cs (soon none))
