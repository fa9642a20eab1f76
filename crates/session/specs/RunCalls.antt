-- Demand 3 for every run of the code's calls from a fresh session: the theorems of `Calls` over the answers, slices and sessions that the contracts promise.
use Rattle.std.specs.Prelude.{◌≡◌, refl, Bool, true, false, cond, List, [], ◌∷◌, ◌++◌, map, ℕ, ◌*◌, min, ℤ, length, take, drop}
use Rattle.std.proofs.Common.{sym, ap, ap₂, ◌∙◌}
use Rattle.ranks.specs.Members.{Rising}
use Rattle.ranks.specs.Rest.{is_nil}
use Rattle.ranks.specs.Handed.{flat}
use Rattle.walk_list.specs.Walk.{numbers_in}
use Rattle.session_model.specs.Session.{Call, handOut, step, answers, after, is_refused}
use Rattle.session_model.specs.Session as Model
use Rattle.session_model.specs.Rules.{verdict, verdicts, begin}
use Rattle.session_model.specs.Since.{since_after, since, points, spaces, full_of}
use Rattle.session_model.specs.lemmas.Refused.{unrefused, granted}
use Rattle.session_model.proofs.lemmas.Refused.{refused_same, refused_lent}
use Rattle.session_model.specs.Operators.{struck, is_hand_out, is_independent, picked}
use Rattle.record_kinds.specs.declared.Refusal.{Refusal}
use Rattle.session_stages.specs.declared.Session.{Session}
use Rattle.session_stages.specs.declared.Answer.TheVariants as A
use Rattle.session_stages.specs.World.{world}
use Rattle.session_stages.specs.Session.{meaning, fresh, Hands}
use Rattle.session_stages.specs.Meaning.{early, meaning-one}
use Rattle.session.specs.lemmas.Calls.{left, session-rules, session-first, session-rising, session-count, session-end, session-refused, session-operators, session-others}
use Rattle.session.specs.Run.{Made, Link, hand-out, From, none, then, Run, Machine, machine_fits, calls_of, answered, answers_of, since_of, link_answer, link_session, from-answers, from-after, from-exchanges}

pub run-since : {ms : List Made} {t : Session} → Run ms t → since_of ms ≡ since world (calls_of ms)
run-since r = ap (since_after world []) (from-exchanges r)

-- the full list of the job that a session has
abbrev pub list_of : Session → List ℕ
list_of s = full_of world (meaning s)

-- refusals, and each hand-out's count, end and points, are those of the rules, from the calls' arguments alone
pub run-rules : {ms : List Made} {t : Session} → Run ms t → map (verdict world) (answers_of ms) ≡ verdicts world (begin world) (calls_of ms)
run-rules {ms} r = ap (map (verdict world)) (from-answers r) ∙ session-rules (calls_of ms)

-- what was handed out since the last rewind or clearing is the beginning of the full list
pub run-first : {ms : List Made} {t : Session} → Run ms t → points world (since_of ms) ≡ flat numbers_in (take (spaces world (since_of ms)) (list_of t))
run-first {ms} r = rw (run-since r, from-after r) (session-first (calls_of ms))

-- in rising order, each once, by the points' ranks (`run-points` says it of the points)
pub run-rising : {ms : List Made} {t : Session} → Run ms t → Rising 0 (take (spaces world (since_of ms)) (list_of t))
run-rising {ms} r = rw (run-since r, from-after r) (session-rising (calls_of ms))

-- as many as there was space for, or all if they are fewer
pub run-count : {ms : List Made} {t : Session} → Run ms t → length (points world (since_of ms)) ≡ 4 * min (spaces world (since_of ms)) (length (list_of t))
run-count {ms} r = rw (run-since r, from-after r) (session-count (calls_of ms))

-- ---- a hand-out that is not refused reports the end exactly when none is left after it
from_more : {s t u : Session} {ms : List Made} {m : Made} → From s ms t → Link t m u → From s (ms ++ (m ∷ [])) u
from_more none k = then k none
from_more (then j r) k = then j (from_more r k)

calls_more : (ms : List Made) (m : Made) → calls_of (ms ++ (m ∷ [])) ≡ calls_of ms ++ (m.call ∷ [])
calls_more [] m = refl
calls_more (n ∷ ms) m = ap (λ (l : List (Call world)). n.call ∷ l) (calls_more ms m)

-- a run, and then a hand-out that answers a count and an end
pub run_end : {ms : List Made} {s t : Session} {old new : List ℤ} {n : ℕ} {e : Bool} → Run ms s → Hands s old new t (A.Handed n e)
    → e ≡ is_nil (drop (spaces world (since_of (ms ++ (record { call = handOut old; answer = A.Handed n e; slice = new } ∷ [])))) (list_of t))
run_end {ms} {s} {old} {new} {n} {e} r h =
    let m : Made = record { call = handOut old; answer = A.Handed n e; slice = new } in
    let k = hand-out old h in
    let q = from_more r k in
    let c = calls_more ms m in
    let a : answered m ≡ (step world (handOut old) (left (calls_of ms))).0 = link_answer k ∙ ap (λ (z : Model.Session world). (step world (handOut old) z).0) (from-after r) in
    let x = session-end (calls_of ms) old in
    rw (run-since q, from-after q, c) (rw (← a) at x)

-- ---- a refused call leaves the session, and the lent slice
pub link_refused : {s t : Session} {m : Made} → Link s m t → is_refused world (answered m) ≡ true → meaning t ≡ meaning s
link_refused {s} {m} k h = link_session k ∙ refused_same world m.call (meaning s) (ap (is_refused world) (sym (link_answer k)) ∙ h)

pub slice-refused : (s : Session) {t : Session} {old new : List ℤ} {f : Refusal} → Hands s old new t (A.Refused f) → new ≡ old
slice-refused s {old} h = h.slice ∙ refused_lent world (step world (handOut old) (meaning s)).0 old (ap (is_refused world) (sym (ap (λ (o : Model.Outcome world). o.0) h.met)))

-- ---- with the refused calls struck out, the others get the same answers and leave the same session
abbrev pub kept : List Made → List Made
kept [] = []
kept (m ∷ ms) = cond (is_refused world (answered m)) (kept ms) (m ∷ kept ms)

one-calls : (b : Bool) (m : Made) (l : List Made) → calls_of (cond b l (m ∷ l)) ≡ cond b (calls_of l) (m.call ∷ calls_of l)
one-calls true m l = refl
one-calls false m l = refl

one-answers : (b : Bool) (m : Made) (l : List Made) → answers_of (cond b l (m ∷ l)) ≡ cond b (answers_of l) (answered m ∷ answers_of l)
one-answers true m l = refl
one-answers false m l = refl

pub kept-calls : {s t : Session} {ms : List Made} → From s ms t → calls_of (kept ms) ≡ unrefused world (meaning s) (calls_of ms)
kept-calls none = refl
kept-calls (then {m} {ms} k r) =
    let e = kept-calls r ∙ ap (λ (z : Model.Session world). unrefused world z (calls_of ms)) (link_session k) in
    one-calls (is_refused world (answered m)) m (kept ms)
    ∙ ap₂ (λ (a : Model.Answer world) (l : List (Call world)). cond (is_refused world a) l (m.call ∷ l)) (link_answer k) e

kept-answers : (ms : List Made) → answers_of (kept ms) ≡ granted world (answers_of ms)
kept-answers [] = refl
kept-answers (m ∷ ms) =
    one-answers (is_refused world (answered m)) m (kept ms)
    ∙ ap (λ (l : List (Model.Answer world)). cond (is_refused world (answered m)) l (answered m ∷ l)) (kept-answers ms)

-- a run, and a run of those of its calls that were not refused
module _ {ms ns : List Made} {t u : Session} (r : Run ms t) (q : Run ns u) (same : calls_of ns ≡ calls_of (kept ms)) where
  struck-calls : calls_of ns ≡ unrefused world (meaning fresh) (calls_of ms)
  struck-calls = same ∙ kept-calls r

  pub run-refused : answers_of ns ≡ answers_of (kept ms)
  run-refused =
      from-answers q ∙ ap (answers world (meaning fresh)) struck-calls ∙ (session-refused (calls_of ms)).same-answers ∙ ap (granted world) (sym (from-answers r)) ∙ sym (kept-answers ms)

  pub run-refused_meaning : meaning u ≡ meaning t
  run-refused_meaning = from-after q ∙ ap (after world (meaning fresh)) struck-calls ∙ (session-refused (calls_of ms)).same-session ∙ sym (from-after r)

  -- the sessions themselves are the same, since the machine's numbers are
  pub run-refused_session : Machine q → Machine r → u ≡ t
  run-refused_session f g = meaning-one (machine_fits q early f) (machine_fits r early g) run-refused_meaning

-- ---- two lists that are alike without their operator readings get the same answers and points from their hand-outs
-- the answers to the calls that are picked
abbrev pub picked_of : (Call world → Bool) → List Made → List (Model.Answer world)
picked_of picks [] = []
picked_of picks (m ∷ ms) = cond (picks m.call) (answered m ∷ picked_of picks ms) (picked_of picks ms)

from-picked : (picks : Call world → Bool) {s t : Session} {ms : List Made} → From s ms t → picked_of picks ms ≡ picked world picks (meaning s) (calls_of ms)
from-picked picks none = refl
from-picked picks {s} (then {m} {ms} k r) =
    let e = from-picked picks r ∙ ap (λ (z : Model.Session world). picked world picks z (calls_of ms)) (link_session k) in
    ap₂ (λ (a : Model.Answer world) (l : List (Model.Answer world)). cond (picks m.call) (a ∷ l) l) (link_answer k) e

module _ {ms ns : List Made} {t u : Session} (r : Run ms t) (q : Run ns u) (alike : struck world (calls_of ms) ≡ struck world (calls_of ns)) where
  pub run-operators : picked_of (is_hand_out world) ms ≡ picked_of (is_hand_out world) ns
  run-operators = from-picked (is_hand_out world) r ∙ session-operators (calls_of ms) (calls_of ns) alike ∙ sym (from-picked (is_hand_out world) q)

  -- and of every call but operator readings and image questions
  pub run-others : picked_of (is_independent world) ms ≡ picked_of (is_independent world) ns
  run-others = from-picked (is_independent world) r ∙ session-others (calls_of ms) (calls_of ns) alike ∙ sym (from-picked (is_independent world) q)
