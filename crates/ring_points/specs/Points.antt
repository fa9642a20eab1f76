-- Every point of four signed 32-bit numbers has one rank below the top one, and every such rank is one's: SPEC, "Walk". Point order, by a, then
-- b, c, d as signed numbers, is the order of ranks.
use Rattle.std.specs.Prelude.{◌≡◌, List, [], ◌∷◌, ◌↔◌, ℕ, suc, ◌+◌, ◌*◌, ◌^◌, ◌≤◌, ◌<◌, ltb, leb, ℤ}
use Rattle.std.proofs.Common.{sym, ap, ◌∙◌, arith, lt-ltb, le-ltb, le-leb, SFits}
use Rattle.std.proofs.Math.Decide.{dec_lt}
use Rattle.std.proofs.lemmas.Bool.{lt-leb}
use Rattle.std.specs.Int.{w32}
use Rattle.integers.specs.Difference.{◌≺◌, <→ℕ, ℕ→<}
use Rattle.ring.specs.declared.Point.{Point}
use Rattle.ranks.specs.Digits.{pair}
use Rattle.ranks.specs.Rank.{Before, byA, byB, byC, byD, rank, top, digit_a, digit_b, digit_c, digit_d}
use Rattle.ranks.proofs.Rank.{rank-A, rank-B, rank-C, rank-D, rank-digits, rank_below, rank-before, before-rank}
use Rattle.ring_points.specs.Digits.{span, coordinate, digit, span-is, coordinate-digit, digit-coordinate, digit-below, whole}

-- the point of a rank, and the rank of a point, to the base 2^32
abbrev pub point_of : ℕ → Point
point_of r = record { a = coordinate (digit_a span r); b = coordinate (digit_b span r); c = coordinate (digit_c span r); d = coordinate (digit_d span r) }

abbrev pub rank_of : Point → ℕ
rank_of v = rank span (digit v.a) (digit v.b) (digit v.c) (digit v.d)

-- a point as its four numbers
abbrev pub numbers_in : ℕ → List ℤ
numbers_in r = let v = point_of r in v.a ∷ v.b ∷ v.c ∷ v.d ∷ []

-- ---- points
pub record Fits32 (v : Point) : Type 0 where
  pub a : SFits w32 v.a
  pub b : SFits w32 v.b
  pub c : SFits w32 v.c
  pub d : SFits w32 v.d

pub point-ext : {x y z t : ℤ} (v : Point) → x ≡ v.a → y ≡ v.b → z ≡ v.c → t ≡ v.d → ◌≡◌ {A = Point} (record { a = x; b = y; c = z; d = t }) v
point-ext v e f g h = rw (e, f, g, h)

pub digits_rank : {a b c d : ℕ} (v : Point) → a ≡ digit v.a → b ≡ digit v.b → c ≡ digit v.c → d ≡ digit v.d → rank span a b c d ≡ rank_of v
digits_rank v e f g h = rw (e, f, g, h)

pub rank-point : (r : ℕ) → rank_of (point_of r) ≡ r
rank-point r = rw (digit-coordinate (digit_a span r), digit-coordinate (digit_b span r), digit-coordinate (digit_c span r), digit-coordinate (digit_d span r)) (rank-digits span r)

module _ (v : Point) (f : Fits32 v) where
  pub point-rank : point_of (rank_of v) ≡ v
  point-rank =
      let b = digit-below v.b f.b in
      let c = digit-below v.c f.c in
      let d = digit-below v.d f.d in
      point-ext v (ap coordinate (rank-A span _ _ _ _ b c d) ∙ coordinate-digit v.a f.a) (ap coordinate (rank-B span _ _ _ _ b c d) ∙ coordinate-digit v.b f.b)
      (ap coordinate (rank-C span _ _ _ _ c d) ∙ coordinate-digit v.c f.c) (ap coordinate (rank-D span _ _ _ _ d) ∙ coordinate-digit v.d f.d)

  pub rank_of_below : rank_of v < top span
  rank_of_below = rank_below span _ _ _ _ (digit-below v.a f.a) (digit-below v.b f.b) (digit-below v.c f.c) (digit-below v.d f.d)

pub numbers_of : (v : Point) → Fits32 v → numbers_in (rank_of v) ≡ v.a ∷ v.b ∷ v.c ∷ v.d ∷ []
numbers_of v f = ap (λ (u : Point). u.a ∷ u.b ∷ u.c ∷ u.d ∷ []) (point-rank v f)

-- ---- point order: a first, then b, c, d, as signed numbers
pub data PointBefore (v w : Point) : Type 0 where
  first : v.a ≺ w.a → PointBefore v w
  second : v.a ≡ w.a → v.b ≺ w.b → PointBefore v w
  third : v.a ≡ w.a → v.b ≡ w.b → v.c ≺ w.c → PointBefore v w
  fourth : v.a ≡ w.a → v.b ≡ w.b → v.c ≡ w.c → v.d ≺ w.d → PointBefore v w

pub digit-mono : (x y : ℤ) → SFits w32 x → SFits w32 y → (x ≺ y) ↔ (digit x < digit y)
digit-mono x y f g = (
  (λ h. omega (arith, <→ℕ x y h, whole (2 ^ 31) x f.sfits, whole (2 ^ 31) y g.sfits)),
  (λ h. ℕ→< x y (omega (arith, whole (2 ^ 31) x f.sfits, whole (2 ^ 31) y g.sfits))),
)

pub digit-inj : (x y : ℤ) → SFits w32 x → SFits w32 y → digit x ≡ digit y → x ≡ y
digit-inj x y f g e = sym (coordinate-digit x f) ∙ ap coordinate e ∙ coordinate-digit y g

abbrev DigitsBefore : Point → Point → Type 0
DigitsBefore v w = Before (digit v.a) (digit v.b) (digit v.c) (digit v.d) (digit w.a) (digit w.b) (digit w.c) (digit w.d)

pub point-order : (v w : Point) → Fits32 v → Fits32 w → PointBefore v w ↔ (rank_of v < rank_of w)
point-order v w f g = ((λ h. rank-before span _ _ _ _ _ _ _ _ vb vc vd (up_to h)), (λ h. down (before-rank span _ _ _ _ _ _ _ _ vb vc wb wc wd h)))
  where
    vb : digit v.b < span
    vb = digit-below v.b f.b

    vc : digit v.c < span
    vc = digit-below v.c f.c

    vd : digit v.d < span
    vd = digit-below v.d f.d

    wb : digit w.b < span
    wb = digit-below w.b g.b

    wc : digit w.c < span
    wc = digit-below w.c g.c

    wd : digit w.d < span
    wd = digit-below w.d g.d

    up_to : PointBefore v w → DigitsBefore v w
    up_to (first h) = byA ((digit-mono _ _ f.a g.a).0 h)
    up_to (second e h) = byB (ap digit e) ((digit-mono _ _ f.b g.b).0 h)
    up_to (third e i h) = byC (ap digit e) (ap digit i) ((digit-mono _ _ f.c g.c).0 h)
    up_to (fourth e i k h) = byD (ap digit e) (ap digit i) (ap digit k) ((digit-mono _ _ f.d g.d).0 h)

    down : DigitsBefore v w → PointBefore v w
    down (byA h) = first ((digit-mono _ _ f.a g.a).1 h)
    down (byB e h) = second (digit-inj _ _ f.a g.a e) ((digit-mono _ _ f.b g.b).1 h)
    down (byC e i h) = third (digit-inj _ _ f.a g.a e) (digit-inj _ _ f.b g.b i) ((digit-mono _ _ f.c g.c).1 h)
    down (byD e i k h) = fourth (digit-inj _ _ f.a g.a e) (digit-inj _ _ f.b g.b i) (digit-inj _ _ f.c g.c k) ((digit-mono _ _ f.d g.d).1 h)

-- ---- a rank in two words
abbrev pub word : ℤ → ℤ → ℕ
word x y = digit x * 4294967296 + digit y

pub word_below : (x y : ℤ) → SFits w32 x → SFits w32 y → word x y < 18446744073709551616
word_below x y f g = omega (arith, span-is, digit-below x f, digit-below y g)

pub rank-words : (v : Point) → rank_of v ≡ word v.a v.b * 18446744073709551616 + word v.c v.d
unfolding rank pair span
rank-words v = omega arith

ltb_same : (a b c d : ℕ) → (a < b → c < d) → (c < d → a < b) → ltb a b ≡ ltb c d
ltb_same a b c d f g = go (dec_lt a b)
  where
    go : Dec (a < b) → ltb a b ≡ ltb c d
    go (yes h) = lt-ltb a b h ∙ sym (lt-ltb c d (f h))
    go (no h) = le-ltb a b (omega arith) ∙ sym (le-ltb c d (le_of (λ k. h (g k))))
      where
        le_of : (c < d → ⊥) → d ≤ c
        le_of k = elim (dec_lt c d) [ yes l ↦ absurd (k l) | no l ↦ omega arith ]

pub leb_suc : (r q : ℕ) → leb (suc r) q ≡ ltb r q
leb_suc r q = elim (dec_lt r q) [ yes h ↦ le-leb (suc r) q (omega arith) ∙ sym (lt-ltb r q h) | no h ↦ lt-leb (suc r) q (omega arith) ∙ sym (le-ltb r q (omega arith)) ]

module _ (v w : Point) (f : Fits32 v) where
  pub words-high : word v.a v.b < word w.a w.b → rank_of v < rank_of w
  words-high h = omega (arith, rank-words v, rank-words w, word_below v.c v.d f.c f.d)

  pub words-low : word v.a v.b ≡ word w.a w.b → ltb (word v.c v.d) (word w.c w.d) ≡ ltb (rank_of v) (rank_of w)
  words-low h = ltb_same (word v.c v.d) (word w.c w.d) (rank_of v) (rank_of w) (λ k. omega (arith, rank-words v, rank-words w)) (λ k. omega (arith, rank-words v, rank-words w))
