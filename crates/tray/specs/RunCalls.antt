-- The theorems of `Calls` for every run of the code's calls from a session without a tray, over the answers, slices and sessions that the contracts promise.
use Rattle.std.specs.Prelude.{◌≡◌, refl, Bool, true, false, cond, ◌↔◌, ℕ, ◌*◌, ◌<◌, min, ℤ, length, take, drop}
use Rattle.std.proofs.Common.{sym, ap, ap₂, ◌∙◌}
use mathlib.Core.List.{List, [], ◌∷◌, ◌++◌, map, Memᴰ}
use Rattle.ring.specs.declared.Point.{Point}
use Rattle.ranks.specs.Rest.{Place, is_nil}
use Rattle.ranks.specs.Rank.{top}
use Rattle.ranks.specs.Members.{Rising}
use Rattle.ranks.specs.Handed.{flat}
use Rattle.ring_points.specs.Listed.{listed-there, there_listed}
use Rattle.ring_points.specs.Ascending.{Ascending, ascending, rest-passing}
use Rattle.cuts.specs.Digits.{span}
use Rattle.walk_list.specs.Walk.{point_of}
use Rattle.walk_list.specs.Walk as One
use Rattle.region.specs.Selection.{listed}
use Rattle.tray_model.specs.Session.{Call, handOut, step, answers, after, early, walking, is_refused}
use Rattle.tray_model.specs.Session as Model
use Rattle.tray_model.specs.Since.{Exchange, exchanges, since_after, since, points, spaces, full_of, numbers}
use Rattle.tray_model.specs.lemmas.Refused.{unrefused, granted}
use Rattle.tray_model.proofs.lemmas.Refused.{refused_same, refused_lent}
use Rattle.tray_model.specs.End.{reported}
use Rattle.tray_list.specs.declared.Tray.{Tray}
use Rattle.tray_list.specs.Tray.{job_at, size, any_at, five_of, full}
use Rattle.tray_list.specs.Own.{four_of}
use Rattle.tray_list.specs.lemmas.Full.{listed_under}
use Rattle.tray_list.proofs.lemmas.Full.{listed-by_fits, by_one, full-holds}
use Rattle.tray_list.specs.Points.{fives_of}
use Rattle.tray_list.proofs.Points.{flat-fives}
use Rattle.tray_taking.specs.declared.Refusal.{Refusal}
use Rattle.tray.specs.declared.Session.{Session}
use Rattle.tray.specs.declared.Answer.TheVariants as A
use Rattle.tray.specs.Session.{world, meaning, fresh, Hands}
use Rattle.tray.specs.lemmas.Meaning.{Fits, Same, meaning-one}
use Rattle.tray.specs.lemmas.Calls.{left, session-first, session-rising, session-count, session-end, session-refused, session-finished}
use Rattle.tray.specs.Run.{Made, Link, hand-out, From, none, then, calls_of, answered, answers_of, link_answer, link_session, from-answers, from-after}

abbrev pub Run : List Made → Session → Type 0
Run ms t = From fresh ms t

-- the calls since the last take, rewind or clearing that was not refused
abbrev pub exchanges_of : List Made → List (Exchange world)
exchanges_of [] = []
exchanges_of (m ∷ ms) = (m.call, answered m) ∷ exchanges_of ms

abbrev pub since_of : List Made → List (Exchange world)
since_of ms = since_after world [] (exchanges_of ms)

from-exchanges : {s t : Session} {ms : List Made} → From s ms t → exchanges_of ms ≡ exchanges world (meaning s) (calls_of ms)
from-exchanges none = refl
from-exchanges (then {m} {ms} k r) =
    ap₂ ◌∷◌ (ap (λ (a : Model.Answer world). (m.call, a)) (link_answer k)) (from-exchanges r ∙ ap (λ (z : Model.Session world). exchanges world z (calls_of ms)) (link_session k))

pub run-since : {ms : List Made} {t : Session} → Run ms t → since_of ms ≡ since world (calls_of ms)
run-since r = ap (since_after world []) (from-exchanges r)

-- the full list of the tray that a session has
abbrev pub list_of : Session → List ℕ
list_of s = full_of world (meaning s)

-- what was handed out since the last take, rewind or clearing is the beginning of the full list, five numbers a point
pub run-first : {ms : List Made} {t : Session} → Run ms t → points world (since_of ms) ≡ numbers world (meaning t) (take (spaces world (since_of ms)) (list_of t))
run-first {ms} r = rw (run-since r, from-after r) (session-first (calls_of ms))

-- in rising order, each once, by the points' ranks (`run-points` says it of the points)
pub run-rising : {ms : List Made} {t : Session} → Run ms t → Rising 0 (take (spaces world (since_of ms)) (list_of t))
run-rising {ms} r = rw (run-since r, from-after r) (session-rising (calls_of ms))

-- as many as there was space for, or all if they are fewer
pub run-count : {ms : List Made} {t : Session} → Run ms t → length (points world (since_of ms)) ≡ 5 * min (spaces world (since_of ms)) (length (list_of t))
run-count {ms} r = rw (run-since r, from-after r) (session-count (calls_of ms))

-- ---- a hand-out that is not refused reports the end exactly when none is left after it
from_more : {s t u : Session} {ms : List Made} {m : Made} → From s ms t → Link t m u → From s (ms ++ (m ∷ [])) u
from_more none k = then k none
from_more (then j r) k = then j (from_more r k)

calls_more : (ms : List Made) (m : Made) → calls_of (ms ++ (m ∷ [])) ≡ calls_of ms ++ (m.call ∷ [])
calls_more [] m = refl
calls_more (n ∷ ms) m = ap (λ (l : List (Call world)). n.call ∷ l) (calls_more ms m)

pub run_end : {ms : List Made} {s t : Session} {old new : List ℤ} {n : ℕ} {e : Bool} → Run ms s → Hands s old new t (A.Handed n e)
    → e ≡ is_nil (drop (spaces world (since_of (ms ++ (record { call = handOut old; answer = A.Handed n e; slice = new } ∷ [])))) (list_of t))
run_end {ms} {s} {old} {new} {n} {e} r h =
    let m : Made = record { call = handOut old; answer = A.Handed n e; slice = new } in
    let k = hand-out old h in
    let q = from_more r k in
    let c = calls_more ms m in
    let a : answered m ≡ (step world (handOut old) (left (calls_of ms))).0 = link_answer k ∙ ap (λ (z : Model.Session world). (step world (handOut old) z).0) (from-after r) in
    let x = session-end (calls_of ms) old in
    rw (run-since q, from-after q, c) (rw (← a) at x)

-- ---- a refused call leaves the session, and the lent slice
pub link_refused : {s t : Session} {m : Made} → Link s m t → is_refused world (answered m) ≡ true → meaning t ≡ meaning s
link_refused {s} {m} k h = link_session k ∙ refused_same world m.call (meaning s) (ap (is_refused world) (sym (link_answer k)) ∙ h)

pub slice-refused : (s : Session) {t : Session} {old new : List ℤ} {f : Refusal} → Hands s old new t (A.Refused f) → new ≡ old
slice-refused s {old} h = h.slice ∙ refused_lent world (step world (handOut old) (meaning s)).0 old (ap (is_refused world) (sym (ap (λ (o : Model.Outcome world). o.0) h.met)))

-- ---- with the refused calls struck out, the others get the same answers and leave the same session
abbrev pub kept : List Made → List Made
kept [] = []
kept (m ∷ ms) = cond (is_refused world (answered m)) (kept ms) (m ∷ kept ms)

one-calls : (b : Bool) (m : Made) (l : List Made) → calls_of (cond b l (m ∷ l)) ≡ cond b (calls_of l) (m.call ∷ calls_of l)
one-calls true m l = refl
one-calls false m l = refl

one-answers : (b : Bool) (m : Made) (l : List Made) → answers_of (cond b l (m ∷ l)) ≡ cond b (answers_of l) (answered m ∷ answers_of l)
one-answers true m l = refl
one-answers false m l = refl

kept-calls : {s t : Session} {ms : List Made} → From s ms t → calls_of (kept ms) ≡ unrefused world (meaning s) (calls_of ms)
kept-calls none = refl
kept-calls (then {m} {ms} k r) =
    let e = kept-calls r ∙ ap (λ (z : Model.Session world). unrefused world z (calls_of ms)) (link_session k) in
    one-calls (is_refused world (answered m)) m (kept ms)
    ∙ ap₂ (λ (a : Model.Answer world) (l : List (Call world)). cond (is_refused world a) l (m.call ∷ l)) (link_answer k) e

kept-answers : (ms : List Made) → answers_of (kept ms) ≡ granted world (answers_of ms)
kept-answers [] = refl
kept-answers (m ∷ ms) =
    one-answers (is_refused world (answered m)) m (kept ms)
    ∙ ap (λ (l : List (Model.Answer world)). cond (is_refused world (answered m)) l (answered m ∷ l)) (kept-answers ms)

-- a run, and a run of those of its calls that were not refused
module _ {ms ns : List Made} {t u : Session} (r : Run ms t) (q : Run ns u) (same : calls_of ns ≡ calls_of (kept ms)) where
  struck-calls : calls_of ns ≡ unrefused world (meaning fresh) (calls_of ms)
  struck-calls = same ∙ kept-calls r

  pub run-refused : answers_of ns ≡ answers_of (kept ms)
  run-refused =
      from-answers q ∙ ap (answers world (meaning fresh)) struck-calls ∙ (session-refused (calls_of ms)).same-answers ∙ ap (granted world) (sym (from-answers r)) ∙ sym (kept-answers ms)

  pub run-refused_meaning : meaning u ≡ meaning t
  run-refused_meaning = from-after q ∙ ap (after world (meaning fresh)) struck-calls ∙ (session-refused (calls_of ms)).same-session ∙ sym (from-after r)

  -- sessions of machine numbers
  pub run-refused_session : Fits u.stage → Fits t.stage → Same u t
  run-refused_session f g = meaning-one f g run-refused_meaning

-- ---- the points themselves
-- the points handed out since the last take, rewind or clearing
abbrev pub handed_out : List Made → List Point
handed_out ms = fives_of (points world (since_of ms))

first-ascending : (m : Model.Session world) (n : ℕ) → Rising 0 (take n (full_of world m)) → Ascending (fives_of (numbers world m (take n (full_of world m))))
first-ascending early n up = tt
first-ascending (walking t w) n up =
    rw (flat-fives t (take n (Model.full world t))) (ascending (listed_under t) (listed-by_fits t) 0 (take n (Model.full world t)) up (rest-passing (any_at t) n (top span) 0))

-- in point order, each once
pub run-points : {ms : List Made} {t : Session} → Run ms t → Ascending (handed_out ms)
run-points {ms} {t} r = rw (run-first r) (first-ascending (meaning t) (spaces world (since_of ms)) (run-rising r))

-- a hand-out since the last take, rewind or clearing reported the end: all of the tray's list was handed out. A point is among the points if and only if a region's own
-- walk has it, and those with region j's bit are that walk
pub record Finished (ms : List Made) (t : Session) : Type 0 where
  pub tray : Tray
  pub has : (w : Place) × (meaning t ≡ walking tray w)
  pub all : points world (since_of ms) ≡ flat (five_of tray) (full tray)
  pub own : (j : ℕ) → j < size tray → four_of j (points world (since_of ms)) ≡ flat One.numbers_in (One.full (job_at tray j))
  pub listed : (v : Point) → Memᴰ v (handed_out ms) ↔ ((j : ℕ) × (j < size tray) × (listed (job_at tray j) v ≡ true))
  pub rising : Ascending (handed_out ms)

holds-just : (t : Tray) (v : Point) → Memᴰ v (map point_of (full t)) ↔ ((j : ℕ) × (j < size t) × (listed (job_at t j) v ≡ true))
holds-just t v = ((λ m. (by_one t v).0 ((full-holds t v).1 (listed-there (full t) v m))), (λ h. there_listed (full t) v ((full-holds t v).0 ((by_one t v).1 h))))

pub run-finished : {ms : List Made} {t : Session} → Run ms t → reported world (since_of ms) ≡ true → Finished ms t
run-finished {ms} {t} r e =
    let f = session-finished (calls_of ms) (ap (reported world) (sym (run-since r)) ∙ e) in
    let all : points world (since_of ms) ≡ flat (five_of f.tray) (full f.tray) = ap (points world) (run-since r) ∙ f.all in
    let points-are : handed_out ms ≡ map point_of (full f.tray) = ap fives_of all ∙ flat-fives f.tray (full f.tray) in
    record {
      tray = f.tray;
      has = (f.place, from-after r ∙ f.stands);
      all = all;
      own = λ j h. ap (four_of j) (ap (points world) (run-since r)) ∙ f.own j h;
      listed = λ v. rw points-are (holds-just f.tray v);
      rising = run-points r;
    }
