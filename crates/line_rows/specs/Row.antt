-- A row of a line problem over Z[√2]: lo ≤ m·z ≤ hi in two bands, z = a + b√2 in the first and z• in the second (RS, section 4), for a given a.
-- Two of the four bounds hold for all b from some one on, the other two for all b up to some one. So of the b from a given one on, the least that meets the
-- first two solves the row, or none does.
use Rattle.std.specs.Prelude.{◌≡◌, refl, Bool, true, false, ◌&&◌, [], ◌∷◌, ℕ, suc, ◌+◌, ◌-◌, ◌^◌, ◌≤◌, ◌<◌, ℤ, pos, negsuc, neg_ℤ, nat_abs, ◌-ℤ◌}
use Rattle.std.proofs.Common.{sym, ◌∙◌, arith, le→leb}
use Rattle.std.proofs.lemmas.Bool.{false≢true}
use Rattle.std.proofs.Math.Decide.{dec_lt}
use Rattle.integers.specs.lemmas.Booleans.{both_true, both_of}
use Rattle.integers.specs.Difference.{by⊖, zz, ◌≼◌, up, dn, +-spec, neg_up, neg_dn}
use Rattle.integers.specs.Difference as D
use Rattle.integers.specs.lemmas.Ring.{poly, by_ring}
use Rattle.integers.specs.lemmas.RingZ.{polyZ}
use Rattle.integers.specs.lemmas.RingZ as Z
use Rattle.integers.specs.lemmas.Order.{≼→nn}
use Rattle.ring.specs.declared.RootTwo.{RootTwo}
use Rattle.ring.specs.RootTwo.{◌⊞◌, ◌⊟◌, ◌⊠◌, conj, num, ring√, ext, parts, num_parts}
use Rattle.ring.specs.RootTwo.Order.{nonneg, ◌⊑◌, nn_by, nn-+, nn-*, nn_num, nn-√2, num-⊑}
use Rattle.ring.specs.RootTwo.Sized.{Sized}
use Rattle.line_rows.specs.declared.Band.{Band}
use Rattle.line_rows.specs.lemmas.Both.{both-unless, is_false}

abbrev pub at : ℤ → ℤ → RootTwo
at a b = record { p = a; q = b }

-- the coordinate with the digit t, where the digit h is that of 0
abbrev pub coordinate : ℕ → ℕ → ℤ
coordinate h t = pos t -ℤ pos h

-- the pair with the digits x and y
abbrev pub pair_at : ℕ → ℕ → ℕ → RootTwo
pair_at h x y = at (coordinate h x) (coordinate h y)

-- lo ≤ m·z and m·z ≤ hi
abbrev pub above : Band → RootTwo → Bool
above s z = nonneg (num s.m ⊠ z ⊟ s.lo)

abbrev pub below : Band → RootTwo → Bool
below s z = nonneg (s.hi ⊟ num s.m ⊠ z)

-- z not below the one band, and w not above the other
abbrev pub bounded : Band → Band → RootTwo → RootTwo → Bool
bounded s t z w = above s z && below t w

abbrev pub lower : Band → Band → ℤ → ℤ → Bool
lower s t a b = bounded s t (at a b) (conj (at a b))

abbrev pub upper : Band → Band → ℤ → ℤ → Bool
upper s t a b = bounded t s (conj (at a b)) (at a b)

pub band_ext : {s t : Band} → s.m ≡ t.m → s.lo ≡ t.lo → s.hi ≡ t.hi → s ≡ t
band_ext e f g = λ i. record { m = e i; lo = f i; hi = g i }

-- ---- sizes in 64 bits
pub record Small (s : Band) : Type 0 where
  pub scale : nat_abs s.m ≤ 2 ^ 20
  pub positive : pos 0 ≼ s.m
  pub lo : Sized (2 ^ 60) (2 ^ 60) s.lo
  pub hi : Sized (2 ^ 60) (2 ^ 60) s.hi

pub record Near (s t : Band) (h x y : ℕ) : Type 0 where
  pub first : Small s
  pub second : Small t
  pub middle : h ≤ 2 ^ 40
  pub row : x ≤ 2 ^ 40
  pub column : y ≤ 2 ^ 40

-- r is the least number from y on and below top that passes, or top where there is none
pub record Least (test : ℕ → Bool) (y top r : ℕ) : Type 0 where
  pub from : y ≤ r
  pub within : r ≤ top
  pub before : (t : ℕ) → y ≤ t → t < r → test t ≡ false
  pub found : r < top → test r ≡ true

-- the first digit with lo ≤ m·(t − h)
abbrev pub First : ℕ → ℕ → Band → ℕ → Type 0
First h top s r = Least (λ (t : ℕ). above s (at (coordinate h t) (pos 0))) 0 top r

-- every number below h has a digit
pub record Digit (h : ℕ) (z : ℤ) : Type 0 where
  pub digit : ℕ
  pub inside : digit < h + h
  pub stands : coordinate h digit ≡ z

pub digit-of : (h : ℕ) (z : ℤ) → nat_abs z < h → Digit h z
digit-of h z l = record { digit = h + up z - dn z; inside = bound z l; stands = D.ext _ z (go z l) }
  where
    bound : (z : ℤ) → nat_abs z < h → h + up z - dn z < h + h
    bound (pos n) l = omega arith
    bound (negsuc n) l = omega arith

    less : (t : ℕ) → up (coordinate h t) + h ≡ t + dn (coordinate h t)
    less t = omega (arith, +-spec (pos t) (neg_ℤ (pos h)), neg_up (pos h), neg_dn (pos h))

    go : (z : ℤ) → nat_abs z < h → up (coordinate h (h + up z - dn z)) + dn z ≡ up z + dn (coordinate h (h + up z - dn z))
    go (pos n) l = omega (arith, less (h + n - 0))
    go (negsuc n) l = omega (arith, less (h + 0 - suc n))

-- ---- a larger z, and a larger b
pub above-mono : (s : Band) (z w : RootTwo) → pos 0 ≼ s.m → z ⊑ w → above s z ≡ true → above s w ≡ true
above-mono s z w k h e = (nn_by (step (num s.m) z w s.lo) (nn-+ (record { nn = e }) (nn-* (nn_num k) h))).nn
  where
    step : (m z w l : RootTwo) → m ⊠ z ⊟ l ⊞ m ⊠ (w ⊟ z) ≡ m ⊠ w ⊟ l
    step m z w l = by_ring ring√ (m ∷ z ∷ w ∷ l ∷ []) (search poly depth 30) refl

pub below-anti : (s : Band) (z w : RootTwo) → pos 0 ≼ s.m → z ⊑ w → below s w ≡ true → below s z ≡ true
below-anti s z w k h e = (nn_by (step (num s.m) z w s.hi) (nn-+ (record { nn = e }) (nn-* (nn_num k) h))).nn
  where
    step : (m z w l : RootTwo) → l ⊟ m ⊠ w ⊞ m ⊠ (w ⊟ z) ≡ l ⊟ m ⊠ z
    step m z w l = by_ring ring√ (m ∷ z ∷ w ∷ l ∷ []) (search poly depth 30) refl

-- b ≤ b': a + b√2 ≤ a + b'√2, and the conjugates the other way round
at-⊑ : (a b c : ℤ) → b ≼ c → at a b ⊑ at a c
at-⊑ a b c h = nn_by (simp parts (ext (Z.by_ring (a ∷ b ∷ c ∷ []) (search polyZ depth 30) refl) (Z.by_ring (a ∷ b ∷ c ∷ []) (search polyZ depth 30) refl))) (nn-* (nn_num (≼→nn b c h)) nn-√2)

conj-⊑ : (a b c : ℤ) → b ≼ c → conj (at a c) ⊑ conj (at a b)
conj-⊑ a b c h = nn_by (simp parts (ext (Z.by_ring (a ∷ b ∷ c ∷ []) (search polyZ depth 30) refl) (Z.by_ring (a ∷ b ∷ c ∷ []) (search polyZ depth 30) refl))) (nn-* (nn_num (≼→nn b c h)) nn-√2)

pub coordinate-mono : (h x y : ℕ) → x ≤ y → coordinate h x ≼ coordinate h y
coordinate-mono h x y l = less (pos x) (pos y) (pos h) (record { le = le→leb x y l })
  where
    less : (x y h : ℤ) → x ≼ y → x -ℤ h ≼ y -ℤ h
    less = by⊖ _ λ p p'. by⊖ _ λ q q'. by⊖ _ λ r r'. simp zz (omega arith)

-- whole numbers in their order
pub whole-⊑ : (a b : ℤ) → a ≼ b → at a (pos 0) ⊑ at b (pos 0)
whole-⊑ a b h = rw (num_parts a, num_parts b) at (num-⊑ h)

-- a larger z and a smaller w
bounded-mono : (s t : Band) (z z' w w' : RootTwo) → pos 0 ≼ s.m → pos 0 ≼ t.m → z ⊑ z' → w' ⊑ w → bounded s t z w ≡ true → bounded s t z' w' ≡ true
bounded-mono s t z z' w w' f g h k e =
    let (x, y) = both_true _ _ e in
    both_of (above-mono s z z' f h x) (below-anti t w' w g k y)

module _ (s t : Band) (first : pos 0 ≼ s.m) (second : pos 0 ≼ t.m) (a : ℤ) where
  pub lower_mono : (b c : ℤ) → b ≼ c → lower s t a b ≡ true → lower s t a c ≡ true
  lower_mono b c h = bounded-mono s t (at a b) (at a c) (conj (at a b)) (conj (at a c)) first second (at-⊑ a b c h) (conj-⊑ a b c h)

  pub upper-anti : (b c : ℤ) → b ≼ c → upper s t a c ≡ true → upper s t a b ≡ true
  upper-anti b c h = bounded-mono t s (conj (at a c)) (conj (at a b)) (at a c) (at a b) second first (conj-⊑ a b c h) (at-⊑ a b c h)

  -- ---- the law of the row, in digits
  module _ (h y top r : ℕ) (l : Least (λ (k : ℕ). lower s t a (coordinate h k)) y top r) where
    -- the least digit that meets the lower bounds fails an upper one: none from y on meets all
    pub row-none : (r < top → upper s t a (coordinate h r) ≡ false) → (k : ℕ) → y ≤ k → k < top → lower s t a (coordinate h k) && upper s t a (coordinate h k) ≡ false
    row-none f k from under = is_false _ (λ e. let (g, u) = both_true _ _ e in go g u (dec_lt k r))
      where
        go : lower s t a (coordinate h k) ≡ true → upper s t a (coordinate h k) ≡ true → Dec (k < r) → ⊥
        go g u (yes b) = false≢true (sym (l.before k from b) ∙ g)
        go g u (no b) = false≢true (sym (f (omega arith)) ∙ upper-anti (coordinate h r) (coordinate h k) (coordinate-mono h r k (omega arith)) u)

    pub row_before : (k : ℕ) → y ≤ k → k < r → lower s t a (coordinate h k) && upper s t a (coordinate h k) ≡ false
    row_before k from b = both-unless _ _ (l.before k from b)

    pub row-found : r < top → upper s t a (coordinate h r) ≡ true → lower s t a (coordinate h r) && upper s t a (coordinate h r) ≡ true
    row-found b u = both_of (l.found b) u
