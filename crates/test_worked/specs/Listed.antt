-- The full list of a job with small regions, and that of a matrix entry at a small scale: a test that computes decides whether given points are all of it, in order.
use Rattle.std.specs.Prelude.{◌≡◌, refl, Bool, true, false, ◌&&◌, ◌||◌, ℕ, zero, suc, ◌+◌, ◌-◌, ◌≤◌, ◌<◌, T, leb, ℤ, pos, negsuc, neg_ℤ, nat_abs, ◌+ℤ◌, ◌-ℤ◌}
use Rattle.std.proofs.Common.{sym, ◌∙◌, ap, ap₂, subst, ⊎_elim, arith, leb→le}
use mathlib.Core.List.Memᴰ
use mathlib.Core.List.{List, [], ◌∷◌, Memᴰ}
use Rattle.std.proofs.Math.Decide.{dec_lt}
use Rattle.std.specs.Int.Signed.{le_z, le_z_yes}
use Rattle.integers.specs.Difference.{◌≼◌, ≤→ℕ}
use Rattle.integers.specs.lemmas.RingZ.{by_ring, polyZ}
use Rattle.integers.specs.lemmas.Order.{≼-antisym}
use Rattle.ring.specs.declared.Point.{Point}
use Rattle.ring.specs.Point.{ext}
use Rattle.region.specs.declared.Job.{Job}
use Rattle.region.specs.Selection.{listed, listed-solves}
use Rattle.ranks.specs.Members.{Rising}
use Rattle.ranks.specs.Handed.{flat}
use Rattle.ring_points.specs.Points.{Fits32, point_of, rank_of, numbers_in, point-rank}
use Rattle.ring_points.specs.Listed.{Listed, passing, all-unique}
use Rattle.walk_list.specs.Walk.{full}
use Rattle.walk_list.proofs.lemmas.Full.{listed-fits}
use Rattle.entry_equation.specs.Equation.{completes, top_scale}
use Rattle.entry_equation.specs.Size.{Within, half, solution_within}
use Rattle.entry.specs.Entry.{full as entries}
use Rattle.entry.specs.Full.{solution_fits as entry-fits}
use Rattle.test_worked.specs.Bounded.{both_left, both_right, in_box, Within as Boxed, in_box_lem}
use Rattle.test_worked.specs.Twins.{listed_under, listed_by}

-- ---- points that are the same
abbrev pub same : ℤ → ℤ → Bool
same x y = le_z x y && le_z y x

pub same-is : (x y : ℤ) → T (same x y) → x ≡ y
same-is x y t = ≼-antisym x y (le_z_yes (both_left (le_z x y) (le_z y x) t)) (le_z_yes (both_right (le_z x y) (le_z y x) t))

abbrev pub equal_point : Point → Point → Bool
equal_point v w = same v.a w.a && same v.b w.b && (same v.c w.c && same v.d w.d)

pub same_point : (v w : Point) → T (equal_point v w) → v ≡ w
same_point v w t =
    let ab = both_left (same v.a w.a && same v.b w.b) (same v.c w.c && same v.d w.d) t in
    let cd = both_right (same v.a w.a && same v.b w.b) (same v.c w.c && same v.d w.d) t in
    ext (same-is v.a w.a (both_left (same v.a w.a) (same v.b w.b) ab)) (same-is v.b w.b (both_right (same v.a w.a) (same v.b w.b) ab))
    (same-is v.c w.c (both_left (same v.c w.c) (same v.d w.d) cd)) (same-is v.d w.d (both_right (same v.c w.c) (same v.d w.d) cd))

-- ---- every number below n
abbrev every : ℕ → (ℕ → Bool) → Bool
every zero f = true
every (suc n) f = f n && every n f

every-is : (n : ℕ) (f : ℕ → Bool) → T (every n f) → (i : ℕ) → i < n → T (f i)
every-is zero f t i h = absurd (omega arith)
every-is (suc n) f t i h = go (dec_lt i n) (every-is n f (both_right (f n) (every n f) t) i)
  where
    go : Dec (i < n) → (i < n → T (f i)) → T (f i)
    go (yes k) less = less k
    go (no u) less = let e : n ≡ i = omega arith in subst (λ (k : ℕ). T (f k)) e (both_left (f n) (every n f) t)

-- a coordinate within ±m has an index below 2m + 1
record Index (m : ℕ) (z : ℤ) : Type 0 where
  at : ℕ
  low : at < suc (m + m)
  is : pos at -ℤ pos m ≡ z

index : (m : ℕ) (z : ℤ) → nat_abs z ≤ m → Index m z
index m (pos n) h = record { at = n + m; low = omega arith; is = back (pos n) (pos m) }
  where
    back : (x y : ℤ) → x +ℤ y -ℤ y ≡ x
    back x y = by_ring (x ∷ y ∷ []) (search polyZ depth 30) refl
index m (negsuc n) h =
    let r = m - suc n in
    let e : m ≡ suc n + r = omega arith in
    record { at = r; low = omega arith; is = ap (λ (k : ℕ). pos r -ℤ pos k) e ∙ back (pos (suc n)) (pos r) }
  where
    back : (x r : ℤ) → r -ℤ (x +ℤ r) ≡ neg_ℤ x
    back x r = by_ring (x ∷ r ∷ []) (search polyZ depth 30) refl

-- ---- the points of the box
abbrev point_in : ℕ → ℕ → ℕ → ℕ → ℕ → Point
point_in m a b c d = record { a = pos a -ℤ pos m; b = pos b -ℤ pos m; c = pos c -ℤ pos m; d = pos d -ℤ pos m }

abbrev every_point : ℕ → (Point → Bool) → Bool
every_point m f = let w = suc (m + m) in every w (λ a. every w (λ b. every w (λ c. every w (λ d. f (point_in m a b c d)))))

every-point : (m : ℕ) (f : Point → Bool) → T (every_point m f) → (z : Point) → Within m z → T (f z)
every-point m f t z w =
    let a = index m z.a w.a in
    let b = index m z.b w.b in
    let c = index m z.c w.c in
    let d = index m z.d w.d in
    let n = suc (m + m) in
    let ta = every-is n (λ a. every n (λ b. every n (λ c. every n (λ d. f (point_in m a b c d))))) t a.at a.low in
    let tb = every-is n (λ b. every n (λ c. every n (λ d. f (point_in m a.at b c d)))) ta b.at b.low in
    let tc = every-is n (λ c. every n (λ d. f (point_in m a.at b.at c d))) tb c.at c.low in
    let td = every-is n (λ d. f (point_in m a.at b.at c.at d)) tc d.at d.low in
    subst (λ v. T (f v)) (ext a.is b.is c.is d.is) td

-- ---- the test
abbrev member : Point → List Point → Bool
member v [] = false
member v (p ∷ ps) = equal_point v p || member v ps

abbrev unless : Bool → Bool → Bool
unless true b = b
unless false b = true

abbrev every_passes : (Point → Bool) → List Point → Bool
every_passes f [] = true
every_passes f (p ∷ ps) = f p && every_passes f ps

abbrev rising : ℕ → List ℕ → Bool
rising lo [] = true
rising lo (q ∷ l) = leb lo q && rising (suc q) l

abbrev pub ranks_of : List Point → List ℕ
ranks_of [] = []
ranks_of (p ∷ ps) = rank_of p ∷ ranks_of ps

abbrev pub numbers : List Point → List ℤ
numbers [] = []
numbers (p ∷ ps) = p.a ∷ p.b ∷ p.c ∷ p.d ∷ numbers ps

-- each point within ±m that passes is given; those given pass, and their ranks rise
abbrev whole_under : (Point → Bool) → ℕ → List Point → Bool
whole_under f m ps = every_point m (λ v. unless (f v) (member v ps)) && (every_passes f ps && rising 0 (ranks_of ps))

-- of a job, all of whose solutions lie within ±m
abbrev pub whole_list : Job → ℕ → List Point → Bool
whole_list j m ps = in_box j m && whole_under (listed_under j) m ps

-- of a matrix entry, where they lie within ±2^⌈k/2⌉
abbrev pub whole_entry : ℕ → Point → List Point → Bool
whole_entry k v ps = leb k top_scale && whole_under (completes k v) (half k) ps

-- ---- the law
T_of : (b : Bool) → b ≡ true → T b
T_of true e = tt
T_of false e = subst T (sym e) tt

is_true : (b : Bool) → T b → b ≡ true
is_true true t = refl
is_true false t = absurd t

unless-is : (a b : Bool) → T (unless a b) → a ≡ true → T b
unless-is true b t e = t
unless-is false b t e = absurd (subst T (sym e) tt)

rising-is : (lo : ℕ) (l : List ℕ) → T (rising lo l) → Rising lo l
rising-is lo [] t = tt
rising-is lo (q ∷ l) t = (leb→le lo q (both_left (leb lo q) (rising (suc q) l) t), rising-is (suc q) l (both_right (leb lo q) (rising (suc q) l) t))

member-mem : (v : Point) (ps : List Point) → T (member v ps) → Memᴰ (rank_of v) (ranks_of ps)
member-mem v [] t = absurd t
member-mem v (p ∷ ps) t = go (equal_point v p) refl t (member-mem v ps)
  where
    go : (b : Bool) → equal_point v p ≡ b → T (b || member v ps) → (T (member v ps) → Memᴰ (rank_of v) (ranks_of ps)) → Memᴰ (rank_of v) (ranks_of (p ∷ ps))
    go true e t more = Memᴰ.head (ap rank_of (same_point v p (T_of _ e)))
    go false e t more = Memᴰ.tail (more t)

-- a test t, in a form f that computes
module _ (t f : Point → Bool) (is : (v : Point) → t v ≡ f v) (fits : (v : Point) → t v ≡ true → Fits32 v) where
  passes : (p : Point) → T (f p) → t p ≡ true
  passes p i = is p ∙ is_true _ i

  mem-passes : (ps : List Point) → T (every_passes f ps) → (r : ℕ) → Memᴰ r (ranks_of ps) → t (point_of r) ≡ true
  mem-passes [] i r m = absurd (Memᴰ.not-nil m)
  mem-passes (p ∷ ps) i r m =
      let s = passes p (both_left (f p) (every_passes f ps) i) in
      ⊎_elim (λ e. ap (λ (n : ℕ). t (point_of n)) e ∙ ap t (point-rank p (fits p s)) ∙ s) (λ k. mem-passes ps (both_right (f p) (every_passes f ps) i) r k) (Memᴰ.cases_cons m)

  flat-numbers : (ps : List Point) → T (every_passes f ps) → flat numbers_in (ranks_of ps) ≡ numbers ps
  flat-numbers [] i = refl
  flat-numbers (p ∷ ps) i =
      let e = point-rank p (fits p (passes p (both_left (f p) (every_passes f ps) i))) in
      ap₂ (λ (v : Point) (l : List ℤ). v.a ∷ v.b ∷ v.c ∷ v.d ∷ l) e (flat-numbers ps (both_right (f p) (every_passes f ps) i))

  whole_by : (m : ℕ) → ((v : Point) → t v ≡ true → Within m v) → (ps : List Point) → T (whole_under f m ps) → flat numbers_in (passing t 0) ≡ numbers ps
  whole_by m bounded ps i =
      let every = every_point m (λ v. unless (f v) (member v ps)) in
      let q = both_right every (every_passes f ps && rising 0 (ranks_of ps)) i in
      let pass = both_left (every_passes f ps) (rising 0 (ranks_of ps)) q in
      let there : (v : Point) → t v ≡ true → Listed (ranks_of ps) v =
      λ v e.
      let k = unless-is (f v) (member v ps) (every-point m (λ v. unless (f v) (member v ps)) (both_left every (every_passes f ps && rising 0 (ranks_of ps)) i) v (bounded v e)) (sym (is v) ∙ e) in
      record { at = rank_of v; held = member-mem v ps k; point = point-rank v (fits v e) } in
      let all-is = all-unique t fits (ranks_of ps) (rising-is 0 (ranks_of ps) (both_right (every_passes f ps) (rising 0 (ranks_of ps)) q))
      (λ v. (there v, (λ h. subst (λ w. t w ≡ true) h.point (mem-passes ps pass h.at h.held)))) in
      ap (flat numbers_in) (sym all-is) ∙ flat-numbers ps pass

pub whole-list : (j : Job) (m : ℕ) (ps : List Point) → T (whole_list j m ps) → flat numbers_in (full j) ≡ numbers ps
unfolding full
whole-list j m ps i =
    let box = both_left (in_box j m) (whole_under (listed_under j) m ps) i in
    whole_by (listed j) (listed_under j) (listed_by j) (listed-fits j) m (λ v e. sized (in_box_lem j m box v (listed-solves j v e))) ps (both_right (in_box j m) (whole_under (listed_under j) m ps) i)
  where
    size : (z : ℤ) → z ≼ pos m → neg_ℤ z ≼ pos m → nat_abs z ≤ m
    size (pos n) h k = omega (arith, ≤→ℕ (pos n) (pos m) h)
    size (negsuc n) h k = omega (arith, ≤→ℕ (pos (suc n)) (pos m) k)

    sized : {v : Point} → Boxed j m v → Within m v
    sized {v} w = record { a = size v.a w.a-to w.a-from; b = size v.b w.b-to w.b-from; c = size v.c w.c-to w.c-from; d = size v.d w.d-to w.d-from }

pub whole-entry : (k : ℕ) (v : Point) (ps : List Point) → T (whole_entry k v ps) → flat numbers_in (entries k v) ≡ numbers ps
unfolding entries
whole-entry k v ps i =
    let ok = leb→le k top_scale (both_left (leb k top_scale) (whole_under (completes k v) (half k) ps) i) in
    whole_by (completes k v) (completes k v) (λ w. refl) (entry-fits k ok v) (half k) (solution_within k v) ps (both_right (leb k top_scale) (whole_under (completes k v) (half k) ps) i)
