-- Numbers of four digits to the base span, the ranks of points: SPEC, "Numbers" (point order). Each law is the one of two
-- digits, iterated.
-- Assumes nothing.
use Rattle.std.specs.Prelude.{◌≡◌, ℕ, suc, ◌+◌, ◌≤◌, ◌<◌, ◌/◌}
use Rattle.std.proofs.Common.{ap₂}
use native.Mathlib.Omega.{arith}
use Rattle.ranks.specs.Digits.{PairBefore, by_first, by-second, pair, pair-high, pair-low, pair-digits, pair-inj, pair-suc, pair-before, before-pair, pair-from, high_below}
use Rattle.ranks.specs.Rank.{Before, byA, byB, byC, byD, rank, top, digit_a, digit_b, digit_c, digit_d}

module _ (span : ℕ) where
  pub rank-zero : rank span 0 0 0 0 ≡ 0
  unfolding rank pair
  rank-zero = omega arith

  module _ (a b c d : ℕ) where
    pub carry-C : rank span a b c span ≡ rank span a b (c + 1) 0
    unfolding rank pair
    carry-C = omega arith

    pub carry-B : rank span a b span d ≡ rank span a (b + 1) 0 d
    unfolding rank pair
    carry-B = omega arith

    pub carry-A : rank span a span c d ≡ rank span (a + 1) 0 c d
    unfolding rank pair
    carry-A = omega arith

    pub rank-D : d < span → digit_d span (rank span a b c d) ≡ d
    unfolding rank
    rank-D = pair-low span _ d

    pub rank-C : c < span → d < span → digit_c span (rank span a b c d) ≡ c
    unfolding rank
    rank-C hc hd = rw (pair-high span _ d hd) (pair-low span _ c hc)

    pub rank-B : b < span → c < span → d < span → digit_b span (rank span a b c d) ≡ b
    unfolding rank
    rank-B hb hc hd = rw (pair-high span _ d hd, pair-high span _ c hc) (pair-low span a b hb)

    pub rank-A : b < span → c < span → d < span → digit_a span (rank span a b c d) ≡ a
    unfolding rank
    rank-A hb hc hd = rw (pair-high span _ d hd, pair-high span _ c hc) (pair-high span a b hb)

    pub rank-suc : rank span a b c (d + 1) ≡ suc (rank span a b c d)
    unfolding rank
    rank-suc = pair-suc span _ d

    pub rank-over : span ≤ a → top span ≤ rank span a b c d
    unfolding rank
    rank-over h = pair-from span _ _ d (pair-from span _ _ c (pair-from span span a b h))

    module _ (a' b' c' d' : ℕ) where
      -- the order of points is the order of their ranks
      pub rank-before : b < span → c < span → d < span → Before a b c d a' b' c' d' → rank span a b c d < rank span a' b' c' d'
      unfolding rank
      rank-before hb hc hd = go
        where
          third : PairBefore (pair span a b) c (pair span a' b') c' → pair span (pair span (pair span a b) c) d < pair span (pair span (pair span a' b') c') d'
          third h = pair-before span _ d _ d' hd (by_first (pair-before span _ c _ c' hc h))

          go : Before a b c d a' b' c' d' → pair span (pair span (pair span a b) c) d < pair span (pair span (pair span a' b') c') d'
          go (byA h) = third (by_first (pair-before span a b a' b' hb (by_first h)))
          go (byB e h) = third (by_first (pair-before span a b a' b' hb (by-second e h)))
          go (byC e f h) = third (by-second (ap₂ (pair span) e f) h)
          go (byD e f g h) = pair-before span _ d _ d' hd (by-second (ap₂ (pair span) (ap₂ (pair span) e f) g) h)

      pub before-rank : b < span → c < span → b' < span → c' < span → d' < span → rank span a b c d < rank span a' b' c' d' → Before a b c d a' b' c' d'
      unfolding rank
      before-rank hb hc hb' hc' hd' k = four (before-pair span _ d _ d' hd' k)
        where
          two : PairBefore a b a' b' → Before a b c d a' b' c' d'
          two (by_first h) = byA h
          two (by-second e h) = byB e h

          three : PairBefore (pair span a b) c (pair span a' b') c' → Before a b c d a' b' c' d'
          three (by_first h) = two (before-pair span a b a' b' hb' h)
          three (by-second e h) = let i = pair-inj span a b a' b' hb hb' e in byC i.0 i.1 h

          four : PairBefore (pair span (pair span a b) c) d (pair span (pair span a' b') c') d' → Before a b c d a' b' c' d'
          four (by_first h) = three (before-pair span _ c _ c' hc' h)
          four (by-second e h) =
              let j = pair-inj span _ c _ c' hc hc' e in
              let i = pair-inj span a b a' b' hb hb' j.0 in
              byD i.0 i.1 j.1 h

  pub rank-digits : (r : ℕ) → rank span (digit_a span r) (digit_b span r) (digit_c span r) (digit_d span r) ≡ r
  unfolding rank
  rank-digits r = rw (pair-digits span (r / span / span), pair-digits span (r / span), pair-digits span r)

  pub rank_below : (a b c d : ℕ) → a < span → b < span → c < span → d < span → rank span a b c d < top span
  rank_below a b c d ha hb hc hd = rank-before a b c d span 0 0 0 hb hc hd (byA ha)

  pub digit_a-below : 0 < span → (r : ℕ) → r < top span → digit_a span r < span
  unfolding rank
  digit_a-below pos r h = high_below span pos span _ (high_below span pos _ _ (high_below span pos _ r h))
