-- A range of the first coordinate is a range of ranks: a is the first digit, so the points with a from z on are those from one rank on.
use Rattle.std.specs.Prelude.{◌≡◌, refl, Bool, true, false, ◌&&◌, ℕ, ◌+◌, ◌^◌, ◌≤◌, ◌<◌, T, ltb, leb, ℤ, negsuc, ◌+ℤ◌}
use Rattle.std.proofs.Common.{sym, ap, ap₂, lt-ltb, le-leb, ltb-true, leb-true, lit≤, SFits}
use Rattle.std.proofs.Math.Decide.{dec_lt}
use native.Mathlib.Omega.{arith}
use Rattle.std.proofs.Math.IntN.{pos}
use Rattle.std.specs.Int.Signed.{le_z}
use Rattle.std.specs.Int.{w32}
use Rattle.integers.specs.Difference.{◌≼◌, up, dn, +-spec, ≤→ℕ, ℕ→≤}
use Rattle.integers.specs.lemmas.Booleans.{iff}
use Rattle.ranks.specs.Digits.{pair-from, high_from, high_below}
use Rattle.ranks.specs.Rank.{rank, top, digit_a}
use Rattle.ring_points.specs.Digits.{span, span-is, coordinate, digit, less, shifted, digit-below}
use Rattle.list_segment.specs.Part.{within}
use Rattle.list_segment.specs.lemmas.Between.{between}

-- the first rank whose point has an a from z on
abbrev pub first_from : ℤ → ℕ
first_from z = rank span (up (z +ℤ pos (2 ^ 31))) 0 0 0

some : 0 < span
some = rw span-is (lit≤ tt)

digit-from : (t r : ℕ) → rank span t 0 0 0 ≤ r → t ≤ digit_a span r
unfolding rank
digit-from t r h = high_from span some t _ (high_from span some _ _ (high_from span some _ r h))

digit-under : (t r : ℕ) → r < rank span t 0 0 0 → digit_a span r < t
unfolding rank
digit-under t r h = high_below span some t _ (high_below span some _ _ (high_below span some _ r h))

pub true_le : (x y : ℤ) → le_z x y ≡ true → x ≼ y
true_le x y e = record { le = rw e tt }

pub le_true : (x y : ℤ) → x ≼ y → le_z x y ≡ true
le_true x y h = go (le_z x y) h.le
  where
    go : (b : Bool) → T b → b ≡ true
    go true t = refl
    go false t = absurd t

-- H for 2^31, w for z + H
module _ (H : ℕ) (z w : ℤ) (t : ℕ) (e : up w + (dn z + 0) ≡ up z + H + dn w) where
  reached : up w ≤ t → up z + H ≤ t + dn z
  reached h = omega arith

  under : t < up w → t + dn z < up z + H
  under = go w e
    where
      go : (w : ℤ) → up w + (dn z + 0) ≡ up z + H + dn w → t < up w → t + dn z < up z + H
      go (pos n) e h = omega arith
      go (negsuc n) e h = absurd (omega arith)

module _ (z : ℤ) (r : ℕ) where
  abbrev t : ℕ
  t = digit_a span r

  -- a from z on
  pub from-rank : le_z z (coordinate (digit_a span r)) ≡ leb (first_from z) r
  from-rank = iff _ _ there back
    where
      e : up (z +ℤ pos (2 ^ 31)) + (dn z + 0) ≡ up z + 2 ^ 31 + dn (z +ℤ pos (2 ^ 31))
      e = +-spec z (pos (2 ^ 31))

      there : le_z z (coordinate (digit_a span r)) ≡ true → leb (first_from z) r ≡ true
      there h = elim (dec_lt r (first_from z)) [
        | yes k ↦ absurd (omega (arith, less (2 ^ 31) t, ≤→ℕ z (coordinate t) (true_le _ _ h), under (2 ^ 31) z (z +ℤ pos (2 ^ 31)) t e (digit-under _ r k)))
        | no k ↦ le-leb (first_from z) r (omega arith)
      ]

      back : leb (first_from z) r ≡ true → le_z z (coordinate (digit_a span r)) ≡ true
      back h = le_true _ _ (ℕ→≤ z (coordinate t) (omega (arith, less (2 ^ 31) t, reached (2 ^ 31) z (z +ℤ pos (2 ^ 31)) t e (digit-from _ r (leb-true (first_from z) r h)))))

  -- a up to z
  pub to_rank : le_z (coordinate (digit_a span r)) z ≡ ltb r (first_from (z +ℤ pos 1))
  to_rank = iff _ _ there back
    where
      e : up ((z +ℤ pos 1) +ℤ pos (2 ^ 31)) + (dn (z +ℤ pos 1) + 0) ≡ up (z +ℤ pos 1) + 2 ^ 31 + dn ((z +ℤ pos 1) +ℤ pos (2 ^ 31))
      e = +-spec (z +ℤ pos 1) (pos (2 ^ 31))

      there : le_z (coordinate (digit_a span r)) z ≡ true → ltb r (first_from (z +ℤ pos 1)) ≡ true
      there h = elim (dec_lt r (first_from (z +ℤ pos 1))) [
        | yes k ↦ lt-ltb r (first_from (z +ℤ pos 1)) k
        | no k ↦ (let k' : first_from (z +ℤ pos 1) ≤ r = omega arith in absurd (omega (arith, +-spec z (pos 1), less (2 ^ 31) t, ≤→ℕ (coordinate t) z (true_le _ _ h), reached (2 ^ 31) (z +ℤ pos 1) ((z +ℤ pos 1) +ℤ pos (2 ^ 31)) t e (digit-from _ r k'))))
      ]

      back : ltb r (first_from (z +ℤ pos 1)) ≡ true → le_z (coordinate (digit_a span r)) z ≡ true
      back h = le_true _ _ (ℕ→≤ (coordinate t) z (omega (arith, +-spec z (pos 1), less (2 ^ 31) t, under (2 ^ 31) (z +ℤ pos 1) ((z +ℤ pos 1) +ℤ pos (2 ^ 31)) t e (digit-under _ r (ltb-true r (first_from (z +ℤ pos 1)) h)))))

-- a range of a is a range of ranks
pub within-between : (lo hi : ℤ) (r : ℕ) → within lo hi r ≡ between (first_from lo) (first_from (hi +ℤ pos 1)) r
within-between lo hi r = ap₂ ◌&&◌ (from-rank lo r) (to_rank hi r)

-- the order of numbers is that of the ranks
pub first-mono : (y z : ℤ) → y ≼ z → first_from y ≤ first_from z
unfolding rank
first-mono y z h =
    pair-from span _ _ 0 (pair-from span _ _ 0 (pair-from span _ _ 0 (raised (y +ℤ pos (2 ^ 31)) (z +ℤ pos (2 ^ 31)) (+-spec y (pos (2 ^ 31))) (+-spec z (pos (2 ^ 31))) (≤→ℕ y z h))))
  where
    raised : (v w : ℤ) → up v + (dn y + 0) ≡ up y + 2 ^ 31 + dn v → up w + (dn z + 0) ≡ up z + 2 ^ 31 + dn w → up y + dn z ≤ up z + dn y → up v ≤ up w
    raised (pos m) (pos n) e f h = omega arith
    raised (pos m) (negsuc n) e f h = omega arith
    raised (negsuc m) w e f h = omega arith

-- ---- signed 32-bit numbers
module _ (z : ℤ) (f : SFits w32 z) where
  first-digit : up (z +ℤ pos (2 ^ 31)) ≡ digit z
  first-digit = ap up (shifted z f)

  pub first-rank : rank span (digit z) 0 0 0 ≡ first_from z
  first-rank = ap (λ (t : ℕ). rank span t 0 0 0) (sym first-digit)

  -- what comes after them is no further than the top
  pub after-top : first_from (z +ℤ pos 1) ≤ top span
  unfolding rank
  after-top = pair-from span _ _ 0 (pair-from span _ _ 0 (pair-from span _ _ 0 (let b = digit-below z f in let e = first-digit in next (z +ℤ pos (2 ^ 31)) ((z +ℤ pos 1) +ℤ pos (2 ^ 31)) (+-spec z (pos (2 ^ 31))) (+-spec (z +ℤ pos 1) (pos (2 ^ 31))) (+-spec z (pos 1)) (omega arith))))
    where
      next : (v w : ℤ) → up v + (dn z + 0) ≡ up z + 2 ^ 31 + dn v → up w + (dn (z +ℤ pos 1) + 0) ≡ up (z +ℤ pos 1) + 2 ^ 31 + dn w → up (z +ℤ pos 1) + (dn z + 0) ≡ up z + 1 + dn (z +ℤ pos 1) → up v < span → up w ≤ span
      next v (pos n) e g k h = go v e h
        where
          go : (v : ℤ) → up v + (dn z + 0) ≡ up z + 2 ^ 31 + dn v → up v < span → n ≤ span
          go (pos m) e h = omega arith
          go (negsuc m) e h = omega arith
      next v (negsuc n) e g k h = omega arith
