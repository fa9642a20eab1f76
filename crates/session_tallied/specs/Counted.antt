-- The counts after any list of calls: each is the number of the points of its exponent that were handed out since the last rewind or clearing, and together they are the sum of the
-- hand-outs' counts since then. SPEC, "Tally".
-- Assumes nothing.
use Rattle.std.specs.Prelude.{◌≡◌, refl, Bool, true, false, cond, List, [], ◌∷◌, ◌++◌, map, ℕ, suc, ◌+◌, ◌*◌, ◌^◌, ◌≤◌, ◌<◌, min, ℤ, length, take, drop, get_or}
use Rattle.std.proofs.Common.{sym, ap₂, subst, ◌∙◌, append-nil, add-zero, lit≤, length-append}
use Rattle.std.proofs.Math.Path.{ap}
use Rattle.std.proofs.Math.Option.{Option}
use Rattle.std.proofs.Math.Option as O
use Rattle.std.proofs.Math.Nat.{min-le_right}
use native.Mathlib.Omega.{arith}
use Rattle.std.proofs.Math.ListN.{get_or-map}
use Rattle.ring.specs.declared.Point.{Point}
use Rattle.region.specs.declared.Job.{Job}
use Rattle.operator.specs.declared.Operator.{Operator}
use Rattle.operator.specs.Operator.{identity}
use Rattle.ranks.specs.Rest.{Place, at, ended, rest}
use Rattle.ranks.specs.Rank.{top}
use Rattle.ranks.specs.Handed.{flat, put}
use Rattle.ranks.proofs.Handed.{flat_append, take_put, length-flat}
use Rattle.cuts.specs.Digits.{span}
use Rattle.walk_list.specs.Walk.{point_of, listed_at, numbers_in, full}
use Rattle.walk_list.proofs.lemmas.Count.{full-fewer}
use Rattle.session_model.specs.Session.{Reading, refuse, accept, Stage, part, whole, Call, reading, handOut, rewind, clear, plain, image_of, shortest}
use Rattle.session_model.specs.Session.{refused, taken, handed, done, says, best, early, walking, joined, remembered, given, found, step}
use Rattle.session_model.specs.Session as Model
use Rattle.session_model.specs.Since.{Exchange, restarts, since_after, written, points, full_of}
use Rattle.session_model.proofs.lemmas.First.{points-more}
use Rattle.ring_points.specs.Ascending.{Passing, passing-append, rest-passing}
use Rattle.ring_points.specs.Slices.{points_of, flat-points, map-points, length-points}
use Rattle.integers_wide.specs.declared.Size.{Size}
use Rattle.integers_wide.specs.Meaning.{size_of, wrapped}
use Rattle.session_tally.specs.declared.Tally.{Tally}
use Rattle.session_tally.specs.Spread.{number, each, spread, added, nothing, sum}
use Rattle.session_tally.specs.lemmas.Places.{places-at, places_same, number_append, number-most, AllCounted, spread-sum}
use Rattle.integers_wide.specs.lemmas.Wrapped.{wrapped_same}
use Rattle.session_tally.specs.lemmas.Kept.{added-places, nothing-places, kept-places}
use Rattle.session_stages.specs.declared.Parts.{Parts}
use Rattle.session_stages.specs.World.{Best, world, turn_at, part_reading, operator_reading, best_of}
use Rattle.session_stages.specs.Session.{meaning, scale_of}
use Rattle.pattern_shortest.specs.Pattern.{pattern_of}
use Rattle.record.specs.Record.{reading_of}
use Rattle.record_kinds.specs.declared.Turn.TheVariants as T
use Rattle.session.specs.Run.{Made, answered, exchanges_of, since_of, link_steps}
use Rattle.session.specs.RunCalls.{list_of, run-first, run-count}
use Rattle.session.specs.RunWalk.{handed_out}
use Rattle.session_tallying.specs.declared.Tallied.{Tallied}
use Rattle.session_tallying.specs.Tallied.{fresh, tally_after}
use Rattle.session_tallying.specs.lemmas.Points.{all-counted}
use Rattle.session_tallied.specs.Run.{TallyLink, TallyFrom, none, then, TallyRun, session-link, session-run, link_tally}

-- a hand-out's count; a refused one has none
abbrev pub count_of : Model.Answer world → ℕ
count_of (refused r) = 0
count_of (taken n) = 0
count_of (handed n e l) = n
count_of done = 0
count_of (says b) = 0
count_of (best b) = 0

-- the counts of the hand-outs, added up
abbrev pub handed_sum : List (Exchange world) → ℕ
handed_sum [] = 0
handed_sum (x ∷ xs) = count_of x.1 + handed_sum xs

-- ---- one call
-- a session after hand-outs of the points ps, n in all, with their counts
pub data Counted : Model.Session world → Tally → List ℤ → ℕ → Type 0 where
  soon : (p : Parts) → Counted (early p) nothing [] 0
  along : (j : Job) (w : Place) (o : Operator) (rs : List ℕ) (t : Tally) → t.counts ≡ map wrapped (spread j.k (map point_of rs)) → Passing (listed_at j) rs
      → Counted (walking j w o) t (flat numbers_in rs) (length rs)

abbrev Next : Call world → Model.Session world → Model.Outcome world → Tally → List ℤ → ℕ → Type 0
Next c m r t ps n = Counted r.1 (tally_after c r.0 (scale_of m) t) (cond (restarts world c r.0) [] (ps ++ written world r.0)) (cond (restarts world c r.0) 0 (n + count_of r.0))

same : {m : Model.Session world} {t : Tally} {ps : List ℤ} {n : ℕ} → Counted m t ps n → Counted m t (ps ++ []) (n + 0)
same f = rw (append-nil, add-zero) f

-- at the start of a walk
start : (j : Job) (o : Operator) → Counted (walking j (at 0) o) nothing [] 0
unfolding number
start j o = along j (at 0) o [] nothing nothing-places tt

joins : (b : List ℕ) (p : Parts) (r : Reading (Stage Parts Job)) → Next (reading b) (early p) (joined world p r) nothing [] 0
joins b p (refuse r) = same (soon p)
joins b p (accept n (part q)) = same (soon q)
joins b p (accept n (whole j)) = same (start j identity)

remembers : (b : List ℕ) (j : Job) (w : Place) (o : Operator) (rs : List ℕ) (t : Tally) → t.counts ≡ map wrapped (spread j.k (map point_of rs)) → Passing (listed_at j) rs → (r : Reading Operator)
    → Next (reading b) (walking j w o) (remembered world j w o r) t (flat numbers_in rs) (length rs)
remembers b j w o rs t e p (refuse r) = same (along j w o rs t e p)
remembers b j w o rs t e p (accept n g) = same (along j w g rs t e p)

-- the counts of two lists of points
spread-append : (k : ℕ) (l m : List Point) (c : List Size) → c ≡ map wrapped (spread k l) → added (spread k m) c ≡ map wrapped (spread k (l ++ m))
spread-append k l m c e =
    ap (added (spread k m)) e ∙ added-places (λ e. number k e l) (λ e. number k e m) 21 0
    ∙ ap (map wrapped) (places_same _ _ 21 0 (λ e a b. sym (number_append k e l m)))

gives : (j : Job) (p : ℕ) (o : Operator) (l : List ℤ) (rs : List ℕ) (t : Tally) → t.counts ≡ map wrapped (spread j.k (map point_of rs)) → Passing (listed_at j) rs
    → Next (handOut l) (walking j (at p) o) (given world j o l (rest (listed_at j) (top span) p)) t (flat numbers_in rs) (length rs)
gives j p o l rs t e h =
    let n = Model.space world l in
    let left = rest (listed_at j) (top span) p in
    let qs = take n left in
    let back : take (4 * length qs) (put numbers_in 4 qs l) ≡ flat numbers_in qs = take_put numbers_in 4 (λ r. refl) qs l in
    let all : flat numbers_in rs ++ flat numbers_in qs ≡ flat numbers_in (rs ++ qs) = sym (flat_append numbers_in rs qs) in
    let more = spread-append j.k (map point_of rs) (map point_of qs) t.counts e ∙ ap (λ (v : List Point). map wrapped (spread j.k v)) (sym (map-points rs qs)) in
    let long : length rs + length qs ≡ length (rs ++ qs) = sym (length-append rs qs) in
    rw (back, flat-points qs, all, long) (along j _ o (rs ++ qs) (record { counts = added (spread j.k (map point_of qs)) t.counts }) more (passing-append (listed_at j) rs qs h (rest-passing (listed_at j) n (top span) p)))

finds : (x : Option Best) {m : Model.Session world} {t : Tally} {ps : List ℤ} {n : ℕ} → Counted m t ps n → Counted m t (ps ++ written world (found world x)) (n + count_of (found world x))
finds O.none f = same f
finds (O.some b) f = same f

goes : (c : Call world) {m : Model.Session world} {t : Tally} {ps : List ℤ} {n : ℕ} → Counted m t ps n → Next c m (step world c m) t ps n
goes clear f = soon _
goes (reading b) (soon p) = joins b p (part_reading p (reading_of b (turn_at p)))
goes (handOut l) (soon p) = same (soon p)
goes rewind (soon p) = same (soon p)
goes plain (soon p) = same (soon p)
goes (image_of v) (soon p) = same (soon p)
goes shortest (soon p) = same (soon p)
goes (reading b) (along j w o rs t e h) = remembers b j w o rs t e h (operator_reading (reading_of b T.Operators))
goes (handOut l) (along j ended o rs t e h) = same (along j ended o rs t e h)
goes (handOut l) (along j (at p) o rs t e h) = gives j p o l rs t e h
goes rewind (along j w o rs t e h) = start j o
goes plain (along j w o rs t e h) = same (along j w o rs t e h)
goes (image_of v) (along j w o rs t e h) = same (along j w o rs t e h)
goes shortest (along j w o rs t e h) = finds (best_of (pattern_of j)) (along j w o rs t e h)

-- ---- a run
sum_more : (xs : List (Exchange world)) (x : Exchange world) → handed_sum (xs ++ (x ∷ [])) ≡ handed_sum xs + count_of x.1
sum_more [] x = omega arith
sum_more (y ∷ xs) x = omega (arith, sum_more xs x)

abbrev Stands : Tallied → List (Exchange world) → Type 0
Stands b seen = Counted (meaning b.session) b.tally (points world seen) (handed_sum seen)

adds : (r : Bool) (seen : List (Exchange world)) (x : Exchange world) {m : Model.Session world} {t : Tally}
    → Counted m t (cond r [] (points world seen ++ written world x.1)) (cond r 0 (handed_sum seen + count_of x.1))
    → Counted m t (points world (cond r [] (seen ++ (x ∷ [])))) (handed_sum (cond r [] (seen ++ (x ∷ []))))
adds true seen x f = f
adds false seen x f = rw (points-more world seen x, sum_more seen x) f

link_stands : {b d : Tallied} {m : Made} (seen : List (Exchange world)) → TallyLink b m d → Stands b seen
    → Stands d (cond (restarts world m.call (answered m)) [] (seen ++ ((m.call, answered m) ∷ [])))
link_stands {b} {d} {m} seen k f =
    let x : Exchange world = (m.call, answered m) in
    let e = link_steps (session-link k) in
    let g = goes m.call f in
    adds (restarts world m.call (answered m)) seen x (rw (link_tally k) (rw (← e) at g))

from-stands : {b d : Tallied} {ms : List Made} (seen : List (Exchange world)) → TallyFrom b ms d → Stands b seen → Stands d (since_after world seen (exchanges_of ms))
from-stands seen none f = f
from-stands seen (then k r) f = from-stands _ r (link_stands seen k f)

pub run-stands : {ms : List Made} {b : Tallied} → TallyRun ms b → Stands b (since_of ms)
run-stands r = from-stands [] r (soon _)

-- ---- what the counts are
abbrev pub zero : Size
zero = record { hi = 0; lo = 0 }

-- a count in two words is the number, where that is below 2^128
module _ (f : ℕ → ℕ) (e : ℕ) (h : e < 21) where
  at_place : get_or (map wrapped (each f)) e zero ≡ wrapped (f e)
  unfolding wrapped
  at_place = let z : 0 + e ≡ e = omega arith in get_or-map wrapped (each f) e 0 ∙ ap wrapped (places-at f 21 0 e h ∙ ap f z)

  size-place : f e < 2 ^ 128 → size_of (get_or (map wrapped (each f)) e zero) ≡ f e
  size-place k = ap size_of at_place ∙ wrapped_same (f e) k

abbrev Each : ℕ → Tally → List Point → Type 0
Each k t ps = (e : ℕ) → e < 21 → size_of (get_or t.counts e zero) ≡ number k e ps

below : {a b c : ℕ} → a ≤ b → b < c → a < c
below h k = omega arith

module _ (k : ℕ) (ps : List Point) (t : Tally) (is : t.counts ≡ map wrapped (spread k ps)) (few : length ps < 2 ^ 128) where
  each-told : Each k t ps
  each-told e h = ap (λ (c : List Size). size_of (get_or c e zero)) is ∙ size-place (λ j. number k j ps) e h (below (number-most k e ps) few)

  sum_told : AllCounted k ps → sum (map size_of t.counts) ≡ length ps
  sum_told all =
      ap (λ (c : List Size). sum (map size_of c)) is ∙ ap sum (kept-places (λ j. number k j ps) 21 0 (λ e. below (number-most k e ps) few)) ∙ spread-sum k ps all

none-counted : (k : ℕ) → nothing.counts ≡ map wrapped (spread k [])
unfolding number
none-counted k = nothing-places

told : {m : Model.Session world} {t : Tally} {ps : List ℤ} {n : ℕ} → Counted m t ps n → n < 2 ^ 128 → Each (scale_of m) t (points_of ps) × (sum (map size_of t.counts) ≡ n)
told (soon p) h = (each-told 0 [] nothing (none-counted 0) h, sum_told 0 [] nothing (none-counted 0) h tt)
told (along j w o rs t e p) h =
    let few : length (map point_of rs) < 2 ^ 128 = rw (length-points rs) h in
    (rw (flat-points rs) (each-told j.k (map point_of rs) t e few), sum_told j.k (map point_of rs) t e few (all-counted j rs p) ∙ length-points rs)

counted-length : {m : Model.Session world} {t : Tally} {ps : List ℤ} {n : ℕ} → Counted m t ps n → length ps ≡ 4 * n
counted-length (soon p) = refl
counted-length (along j w o rs t e p) = length-flat numbers_in 4 (λ r. refl) rs

list_fewer : (m : Model.Session world) → length (full_of world m) < 2 ^ 128
unfolding full
list_fewer (early p) = lit≤ tt
list_fewer (walking j w o) = full-fewer j

fewer : (n k l t : ℕ) → 4 * n ≡ 4 * min k l → l < t → n < t
fewer n k l t e h = let m = min-le_right k l in omega arith

pub record TallyTold (ms : List Made) (b : Tallied) : Type 0 where
  -- each count is the number of the points handed out since the last rewind or clearing that have its exponent
  pub each : (e : ℕ) → e < 21 → size_of (get_or b.tally.counts e zero) ≡ number (scale_of (meaning b.session)) e (handed_out ms)
  -- together they are the sum of the hand-outs' counts since then
  pub together : sum (map size_of b.tally.counts) ≡ handed_sum (since_of ms)

-- after every run of the bench's calls from a fresh one; no count wraps, since a full list has fewer than 2^128 points
pub run-tallied : {ms : List Made} {b : Tallied} → TallyRun ms b → TallyTold ms b
run-tallied {ms} {b} r =
    let f = run-stands r in
    let few = fewer _ _ _ _ (sym (counted-length f) ∙ run-count (session-run r)) (list_fewer (meaning b.session)) in
    let t = told f few in
    record { each = t.0; together = t.1 }
