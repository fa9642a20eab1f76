-- The points that a hand-out writes are points of the job's list; where it lists the new points alone, all have its scale for exponent.
-- Assumes nothing.
use Rattle.std.specs.Prelude.{◌≡◌, refl, Bool, true, false, ◌||◌, ℕ, ◌*◌, ◌/◌, ◌≤◌, ℤ, length, take, drop}
use Rattle.std.proofs.Common.{sym, ap, ap₂, ◌∙◌, arith, length-take, eqb-true}
use Rattle.std.proofs.lemmas.Bool.{false≢true}
use mathlib.Core.List.{List, [], ◌∷◌, map}
use Rattle.std.proofs.Math.Nat.{min-le_left}
use Rattle.region.specs.declared.Job.{Job}
use Rattle.region.specs.lemmas.Membership.{solves-true}
use Rattle.region.specs.Selection.{is_new, listed-parts, exponent_most}
use Rattle.ranks.specs.Rest.{at, ended, is_nil, rest}
use Rattle.ranks.specs.Rank.{top}
use Rattle.ring_points.specs.Ascending.{Passing, rest-passing}
use Rattle.ring_points.specs.Slices.{points_of, flat-points, length-points}
use Rattle.ranks.specs.Handed.{put}
use Rattle.ranks.proofs.Handed.{take_put}
use Rattle.cuts.specs.Digits.{span}
use Rattle.walk_list.specs.Walk.{point_of, listed_at, numbers_in}
use Rattle.session_model.specs.Session.{handOut, refused, taken, handed, done, says, best, early, walking, step}
use Rattle.session_model.specs.Session as Model
use Rattle.session_tally.specs.Spread.{spread, alone}
use Rattle.session_tally.specs.lemmas.Places.{AllNew, AllCounted, new_spread}
use Rattle.session_stages.specs.declared.Answer.TheVariants as A
use Rattle.session_stages.specs.World.{world}
use Rattle.session_tallying.specs.Tallied.{DealtBy, Dealt, Handing}

-- ---- what a hand-out wrote
is_handed : Model.Answer world → Bool
is_handed (refused r) = false
is_handed (taken n) = false
is_handed (handed n e l) = true
is_handed done = false
is_handed (says b) = false
is_handed (best b) = false

never : {P : Type 0} (n r : ℕ) (e : Bool) (l : List ℤ) → ◌≡◌ {A = Model.Answer world} (handed n e l) (refused r) → P
unfolding is_handed
never n r e l q = absurd (false≢true (sym (ap is_handed q)))

fourth : (n m k : ℕ) → n ≤ m / 4 → k ≡ m → 4 * n ≤ k
fourth n m k h e = omega arith

dealt_at : (new old : List ℤ) (n : ℕ) (e : Bool) (m : Model.Session world) → length new ≡ length old → handed n e new ≡ (step world (handOut old) m).0 → Dealt m new n
dealt_at new old n e (early p) same h = never n 9 e new h
dealt_at new old n e (walking j ended o) same h = never n 10 e new h
dealt_at new old n e (walking j (at p) o) same h =
    let left = rest (listed_at j) (top span) p in
    let k = length old / 4 in
    let ps = take k left in
    let a : handed n e new ≡ handed (length ps) (is_nil (drop k left)) (put numbers_in 4 ps old) = h in
    let count : n ≡ length ps = cc in
    let slice : new ≡ put numbers_in 4 ps old = cc in
    let few : n ≤ k = rw (count, length-take k left) (min-le_left k (length left)) in
    record {
      ranks = ps;
      count = count;
      room = fourth n (length old) (length new) few same;
      numbers = ap₂ (λ (i : ℕ) (l : List ℤ). take (4 * i) l) count slice ∙ take_put numbers_in 4 (λ r. refl) ps old;
      passing = rest-passing (listed_at j) k (top span) p;
    }

pub handed-dealt : (m : Model.Session world) (new : List ℤ) (n : ℕ) (e : Bool) → Handing m new (A.Handed n e) → Dealt m new n
handed-dealt m new n e h = dealt_at new h.old n e m h.same h.met

-- ---- their exponents
module _ (j : Job) where
  either : (b c : Bool) → b || c ≡ true → b ≡ false → c ≡ true
  either true c h e = absurd (false≢true (sym e))
  either false c h e = h

  pub all_new : j.all ≡ false → (l : List ℕ) → Passing (listed_at j) l → AllNew j.k (map point_of l)
  unfolding is_new
  all_new e [] h = tt
  all_new e (r ∷ l) h =
      let s = (listed-parts j (point_of r) h.0).0 in
      (eqb-true _ _ (either j.all (is_new j.k (point_of r)) s e), all_new e l h.1)

  pub all-counted : (l : List ℕ) → Passing (listed_at j) l → AllCounted j.k (map point_of l)
  all-counted [] h = tt
  all-counted (r ∷ l) h =
      let s = (solves-true j (point_of r) (listed-parts j (point_of r) h.0).1).scale in
      let m = exponent_most j.k (point_of r) in
      (omega arith, all-counted l h.1)

-- the counts of n points that are all new
pub new_counts : (j : Job) (new : List ℤ) (n : ℕ) → j.all ≡ false → DealtBy j new n → alone n j.k ≡ spread j.k (points_of (take (4 * n) new))
new_counts j new n e d =
    let ps = map point_of d.ranks in
    ap (λ (i : ℕ). alone i j.k) (d.count ∙ sym (length-points d.ranks)) ∙ sym (new_spread j.k ps (all_new j e d.ranks d.passing))
    ∙ ap (spread j.k) (sym (ap points_of d.numbers ∙ flat-points d.ranks))
