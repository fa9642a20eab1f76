-- How many points a job's list can have: fewer than 2^128, so that two 64-bit words hold their number.
use Rattle.std.specs.Prelude.{◌≡◌, refl, Bool, true, false, ℕ, ◌-◌, ◌^◌, ◌≤◌, ◌<◌, length}
use Rattle.std.proofs.Common.{ap, subst, arith, lit≤}
use Rattle.region.specs.declared.Job.{Job}
use Rattle.region.specs.Selection.{listed, listed-solves}
use Rattle.region.specs.Bound.{solutions_small}
use Rattle.ranks.specs.Rest.{rest}
use Rattle.ranks.proofs.Rest.{rest-induct, rest-miss}
use Rattle.ranks.specs.Rank.{rank, top}
use Rattle.ranks.specs.Digits.{pair}
use Rattle.ring_points.specs.Digits.{span}
use Rattle.walk_list.specs.Walk.{point_of, listed_at, full}

-- no more than the ranks from p on
rest-short : (test : ℕ → Bool) (top p : ℕ) → length (rest test top p) ≤ top - p
rest-short test top p = rest-induct test top (λ q l. length l ≤ top - q) (λ q h. omega arith) (λ q h t ih. omega arith) (λ q h t ih. omega arith) p

all-ranks : top span ≡ 2 ^ 128
unfolding span rank pair
all-ranks = refl

-- the point of rank 0 is too far out to solve a job
far : (j : Job) → listed j (point_of 0) ≡ true → ⊥
unfolding span
far j e = let h = (solutions_small j (point_of 0) (listed-solves j (point_of 0) e)).a in omega arith

zero-fails : (j : Job) → listed_at j 0 ≡ false
zero-fails j = go (listed j (point_of 0)) refl
  where
    go : (b : Bool) → listed j (point_of 0) ≡ b → b ≡ false
    go true e = absurd (far j e)
    go false e = refl

below : {n m t : ℕ} → n ≡ m → m ≤ t - 1 → 0 < t → n < t
below e h k = omega arith

pub full-fewer : (j : Job) → length (full j) < 2 ^ 128
unfolding full
full-fewer j =
    let some : 0 < top span = rw all-ranks (lit≤ tt) in
    let n = below (ap length (rest-miss (listed_at j) (top span) 0 some (zero-fails j))) (rest-short (listed_at j) (top span) 1) some in
    subst (λ (t : ℕ). length (rest (listed_at j) (top span) 0) < t) all-ranks n
