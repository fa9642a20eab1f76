-- The shifted and scaled problem where the second strip is at most 1 wide and, scaled, at most 2 wide: of two pairs the one with the smaller a has the smaller a',
-- or the same a' and the smaller b'. So the scaled pairs, taken by a' and then b' as in the Note, rise in a.
use Rattle.std.specs.Prelude.{◌≡◌, refl, true, ◌⊎◌, [], ◌∷◌, ℕ, ℤ, pos, negsuc, neg_ℤ, ◌+ℤ◌, ◌-ℤ◌, ◌*ℤ◌}
use Rattle.std.proofs.Common.{sym, ◌∙◌, ap, ap₂, subst, inl, inr, arith}
use Rattle.integers.specs.lemmas.Booleans.{both_true}
use Rattle.integers.specs.Difference.{by⊖, zz, ◌≼◌, ◌≺◌}
use Rattle.integers.specs.lemmas.Order.{≼_trans}
use Rattle.integers.specs.lemmas.Ring.{poly, by_ring}
use Rattle.integers.specs.lemmas.RingZ.{polyZ}
use Rattle.integers.specs.lemmas.RingZ as Z
use Rattle.ring.specs.declared.RootTwo.{RootTwo}
use Rattle.ring.specs.RootTwo.{◌⊞◌, ◌⊟◌, ◌⊠◌, neg, conj, num, √2, ring√, ext, parts, sum-parts, neg_parts, num_parts, num-*, conj_num}
use Rattle.ring.specs.RootTwo.Order.{Nn, nn_by, nn-+, nn-*, nn_num, nn-√2, one⊑√2, nn_cancel, nn_zero, num-⊑}
use Rattle.line_rows.specs.declared.Band.{Band}
use Rattle.line_rows.specs.Row.{at, above, below}
use Rattle.line_rows.specs.Steps.{solved, shift_of, times_of, conj-⊟, undo, inverse_sym, Even, even-unit, shift-holds, scale-even}

-- ---- both steps: α₀, then u
abbrev pub image : RootTwo → RootTwo → RootTwo → RootTwo
image α u z = u ⊠ (z ⊟ α)

abbrev pub origin : RootTwo → RootTwo → RootTwo → RootTwo
origin α u z = conj u ⊠ z ⊞ α

abbrev pub first_of : Band → RootTwo → RootTwo → Band
first_of s α u = times_of (shift_of s α) u

abbrev pub second_of : Band → RootTwo → RootTwo → Band
second_of t α u = times_of (shift_of t (conj α)) (conj u)

pub steps_hold : (s t : Band) (α u z : RootTwo) → Even u → solved s t z ≡ solved (first_of s α u) (second_of t α u) (image α u z)
steps_hold s t α u z e = shift-holds s t α z ∙ scale-even (shift_of s α) (shift_of t (conj α)) u (z ⊟ α) e

pub image-origin : (α u z : RootTwo) → Even u → image α u (origin α u z) ≡ z
image-origin α u z e = ap (λ x. u ⊠ x) (less (conj u ⊠ z) α) ∙ undo (inverse_sym (even-unit e)) z
  where
    less : (x y : RootTwo) → x ⊞ y ⊟ y ≡ x
    less x y = by_ring ring√ (x ∷ y ∷ []) (search poly depth 30) refl

pub origin-image : (α u z : RootTwo) → Even u → origin α u (image α u z) ≡ z
origin-image α u z e = ap (λ x. x ⊞ α) (undo (even-unit e) (z ⊟ α)) ∙ less z α
  where
    less : (x y : RootTwo) → x ⊟ y ⊞ y ≡ x
    less x y = by_ring ring√ (x ∷ y ∷ []) (search poly depth 30) refl

-- ---- the four bounds of a solution
pub record Bounds (s t : Band) (z : RootTwo) : Type 0 where
  pub lo : Nn (num s.m ⊠ z ⊟ s.lo)
  pub hi : Nn (s.hi ⊟ num s.m ⊠ z)
  pub conj-lo : Nn (num t.m ⊠ conj z ⊟ t.lo)
  pub conj-hi : Nn (t.hi ⊟ num t.m ⊠ conj z)

pub bounds : (s t : Band) (z : RootTwo) → solved s t z ≡ true → Bounds s t z
bounds s t z e =
    let (f, g) = both_true _ _ e in
    let (a, b) = both_true _ _ f in
    let (c, d) = both_true _ _ g in
    record { lo = record { nn = a }; hi = record { nn = b }; conj-lo = record { nn = c }; conj-hi = record { nn = d } }

-- hi − lo ≤ k m
abbrev pub Wide : ℤ → Band → Type 0
Wide k s = Nn (num k ⊠ num s.m ⊟ (s.hi ⊟ s.lo))

-- ---- x + x• = 2p
twice : (x : RootTwo) → x ⊞ conj x ≡ num x.p ⊞ num x.p
twice x = simp parts (ext refl (Z.by_ring (x.q ∷ []) (search polyZ depth 20) refl))

from-conj : (x : RootTwo) → num x.p ⊞ num x.p ⊟ conj x ≡ x
from-conj x = ap (λ t. t ⊟ conj x) (sym (twice x)) ∙ less x (conj x)
  where
    less : (x y : RootTwo) → x ⊞ y ⊟ y ≡ x
    less x y = by_ring ring√ (x ∷ y ∷ []) (search poly depth 30) refl

to_neg : (x : RootTwo) → conj x ⊟ (num x.p ⊞ num x.p) ≡ neg x
to_neg x = ap (λ t. conj x ⊟ t) (sym (twice x)) ∙ less x (conj x)
  where
    less : (x y : RootTwo) → y ⊟ (x ⊞ y) ≡ neg x
    less x y = by_ring ring√ (x ∷ y ∷ []) (search poly depth 30) refl

less-p : (z w : RootTwo) → (z ⊟ w).p ≡ z.p -ℤ w.p
less-p z w = ap (λ (x : RootTwo). x.p) (ap (λ t. z ⊞ t) (neg_parts w) ∙ sum-parts z _)

less-q : (z w : RootTwo) → (z ⊟ w).q ≡ z.q -ℤ w.q
less-q z w = ap (λ (x : RootTwo). x.q) (ap (λ t. z ⊞ t) (neg_parts w) ∙ sum-parts z _)

zero-p : (x : RootTwo) → x ≡ num (pos 0) → x.p ≡ pos 0
zero-p x e = ap (λ (x : RootTwo). x.p) (e ∙ num_parts (pos 0))

-- after (z, in row and column)
abbrev pub NotBefore : RootTwo → RootTwo → Type 0
NotBefore z w = (z.p ≺ w.p) ⊎ ((z.p ≡ w.p) × (z.q ≼ w.q))

module _ (s t : Band) (α u : RootTwo) (e : Even u) (one : pos 1 ≼ t.m) where
  abbrev positive : pos 0 ≼ t.m
  positive = ≼_trans (pos 0) (pos 1) t.m (record { le = tt }) one

  -- the order of a is that of the scaled pairs
  module _ (narrow : Wide (pos 1) t) (wide : Wide (pos 2) (second_of t α u)) (z w : RootTwo) (hz : solved s t z ≡ true) (hw : solved s t w ≡ true) (less : w.p ≺ z.p) where
    abbrev d : RootTwo
    d = z ⊟ w

    abbrev z' : RootTwo
    z' = image α u z

    abbrev w' : RootTwo
    w' = image α u w

    abbrev d' : RootTwo
    d' = z' ⊟ w'

    d-one : pos 1 ≼ d.p
    d-one = subst (λ k. pos 1 ≼ k) (sym (less-p z w)) (go z.p w.p less)
      where
        go : (a b : ℤ) → b ≺ a → pos 1 ≼ a -ℤ b
        go = by⊖ _ λ p p'. by⊖ _ λ q q'. simp zz (omega arith)

    d-nn : Nn d
    d-nn =
        nn_cancel (num t.m) d (num-⊑ one)
        (nn_by (step (num t.m) (num d.p) (conj z) (conj w) t.hi t.lo ∙ ap (λ x. num t.m ⊠ x) (ap (λ x. num d.p ⊞ num d.p ⊟ x) (sym (conj-⊟ z w)) ∙ from-conj d))
        (nn-+ (nn-+ (nn-+ (nn-+ (nn-+ more more) narrow) (bounds s t z hz).conj-hi) (bounds s t w hw).conj-lo) (nn_num positive)))
      where
        more : Nn (num t.m ⊠ (num d.p ⊟ num (pos 1)))
        more = nn-* (nn_num positive) (num-⊑ d-one)

        step : (m k z w h l : RootTwo) → m ⊠ (k ⊟ num (pos 1)) ⊞ m ⊠ (k ⊟ num (pos 1)) ⊞ (num (pos 1) ⊠ m ⊟ (h ⊟ l)) ⊞ (h ⊟ m ⊠ z) ⊞ (m ⊠ w ⊟ l) ⊞ m ≡ m ⊠ (k ⊞ k ⊟ (z ⊟ w))
        step m k z w h l = by_ring ring√ (m ∷ k ∷ z ∷ w ∷ h ∷ l ∷ []) (search poly depth 40) refl

    d'-is : u ⊠ d ≡ d'
    d'-is = step u z w α
      where
        step : (u z w a : RootTwo) → u ⊠ (z ⊟ w) ≡ u ⊠ (z ⊟ a) ⊟ u ⊠ (w ⊟ a)
        step u z w a = by_ring ring√ (u ∷ z ∷ w ∷ a ∷ []) (search poly depth 30) refl

    d'-nn : Nn d'
    d'-nn = nn_by d'-is (nn-* (even-unit e).nn d-nn)

    -- not before: −d' ≥ 0
    before-p : z'.p ≺ w'.p → Nn (neg d')
    before-p h =
        nn_cancel (num t.m) (neg d') (num-⊑ one)
        (nn_by (step (num t.m) (num d'.p) (conj z') (conj w') T.hi T.lo ∙ ap (λ x. num t.m ⊠ x) (ap (λ x. x ⊟ (num d'.p ⊞ num d'.p)) (sym (conj-⊟ z' w')) ∙ to_neg d'))
        (nn-+ (nn-+ (nn-+ (nn-+ more more) wide) (bounds S T z' (sym (steps_hold s t α u z e) ∙ hz)).conj-lo) (bounds S T w' (sym (steps_hold s t α u w e) ∙ hw)).conj-hi))
      where
        S : Band
        S = first_of s α u

        T : Band
        T = second_of t α u

        go : (a b : ℤ) → a ≺ b → a -ℤ b ≼ negsuc 0
        go = by⊖ _ λ p p'. by⊖ _ λ q q'. simp zz (omega arith)

        more : Nn (num t.m ⊠ (num (negsuc 0) ⊟ num d'.p))
        more = nn-* (nn_num positive) (num-⊑ (subst (λ k. k ≼ negsuc 0) (sym (less-p z' w')) (go z'.p w'.p h)))

        step : (m k z w h l : RootTwo) → m ⊠ (num (negsuc 0) ⊟ k) ⊞ m ⊠ (num (negsuc 0) ⊟ k) ⊞ (num (pos 2) ⊠ m ⊟ (h ⊟ l)) ⊞ (m ⊠ z ⊟ l) ⊞ (h ⊟ m ⊠ w) ≡ m ⊠ (z ⊟ w ⊟ (k ⊞ k))
        step m k z w h l = by_ring ring√ (m ∷ k ∷ z ∷ w ∷ h ∷ l ∷ []) (search poly depth 40) refl

    before-q : z'.p ≡ w'.p → z'.q ≼ w'.q → Nn (neg d')
    before-q f h = nn_by (root d' (less-p z' w' ∙ none z'.p w'.p f)) (nn-* (nn_num (subst (λ k. pos 0 ≼ neg_ℤ k) (sym (less-q z' w')) (go z'.q w'.q h))) nn-√2)
      where
        none : (a b : ℤ) → a ≡ b → a -ℤ b ≡ pos 0
        none = by⊖ _ λ p p'. by⊖ _ λ q q'. simp zz (omega arith)

        go : (a b : ℤ) → a ≼ b → pos 0 ≼ neg_ℤ (a -ℤ b)
        go = by⊖ _ λ p p'. by⊖ _ λ q q'. simp zz (omega arith)

        root : (x : RootTwo) → x.p ≡ pos 0 → num (neg_ℤ x.q) ⊠ √2 ≡ neg x
        root x f = simp parts (ext (Z.by_ring (x.q ∷ []) (search polyZ depth 20) refl ∙ ap neg_ℤ (sym f)) (Z.by_ring (x.q ∷ []) (search polyZ depth 20) refl))

    clash : Nn (neg d') → ⊥
    clash h = go d.p d-one (zero-p d (sym (undo (even-unit e) d) ∙ ap (λ x. conj u ⊠ x) (d'-is ∙ nn_zero d' d'-nn h) ∙ nothing (conj u)))
      where
        nothing : (x : RootTwo) → x ⊠ num (pos 0) ≡ num (pos 0)
        nothing x = by_ring ring√ (x ∷ []) (search poly depth 30) refl

        go : (k : ℤ) → pos 1 ≼ k → k ≡ pos 0 → ⊥
        go = by⊖ _ λ p p'. simp zz (omega arith)

    pub rises : NotBefore z' w' → ⊥
    rises (inl h) = clash (before-p h)
    rises (inr h) = clash (before-q h.0 h.1)

-- ---- a strip at most 1 wide has one b for an a
module _ (s t : Band) (one : pos 1 ≼ t.m) (narrow : Wide (pos 1) t) where
  no-later : (z w : RootTwo) → solved s t z ≡ true → solved s t w ≡ true → z.p ≡ w.p → z.q ≺ w.q → ⊥
  no-later z w hz hw e l = clash (nn_zero (num (pos 1) ⊟ √2) low (nn_by (turn √2) one⊑√2))
    where
      positive : pos 0 ≼ t.m
      positive = ≼_trans (pos 0) (pos 1) t.m (record { le = tt }) one

      k : ℤ
      k = w.q -ℤ z.q

      k-one : pos 1 ≼ k
      k-one = go z.q w.q l
        where
          go : (a b : ℤ) → a ≺ b → pos 1 ≼ b -ℤ a
          go = by⊖ _ λ p p'. by⊖ _ λ q q'. simp zz (omega arith)

      -- z• − w• = k√2
      apart : conj z ⊟ conj w ≡ num k ⊠ √2
      apart = simp parts (ext (none z.p w.p e z.q w.q) (Z.by_ring (z.q ∷ w.q ∷ []) (search polyZ depth 30) refl))
        where
          none : (a b : ℤ) → a ≡ b → (c d : ℤ) → a +ℤ neg_ℤ b ≡ (d -ℤ c) *ℤ pos 0 +ℤ pos 2 *ℤ (pos 0 *ℤ pos 1)
          none a b f c d = ap (λ x. x +ℤ neg_ℤ b) f ∙ Z.by_ring (b ∷ c ∷ d ∷ []) (search polyZ depth 30) refl

      low : Nn (num (pos 1) ⊟ √2)
      low =
          nn_cancel (num t.m) (num (pos 1) ⊟ √2) (num-⊑ one)
          (nn_by (step (num t.m) (num k) (conj z) (conj w) t.hi t.lo √2 ∙ ap (λ x. num t.m ⊠ (num (pos 1) ⊟ x ⊞ (num k ⊟ num (pos 1)) ⊠ √2)) apart ∙ last (num t.m) (num k) √2)
          (nn-+ (nn-+ (nn-+ narrow (bounds s t z hz).conj-hi) (bounds s t w hw).conj-lo) (nn-* (nn_num positive) (nn-* (num-⊑ k-one) nn-√2))))
        where
          step : (m k z w h l r : RootTwo) → num (pos 1) ⊠ m ⊟ (h ⊟ l) ⊞ (h ⊟ m ⊠ z) ⊞ (m ⊠ w ⊟ l) ⊞ m ⊠ ((k ⊟ num (pos 1)) ⊠ r) ≡ m ⊠ (num (pos 1) ⊟ (z ⊟ w) ⊞ (k ⊟ num (pos 1)) ⊠ r)
          step m k z w h l r = by_ring ring√ (m ∷ k ∷ z ∷ w ∷ h ∷ l ∷ r ∷ []) (search poly depth 40) refl

          last : (m k r : RootTwo) → m ⊠ (num (pos 1) ⊟ k ⊠ r ⊞ (k ⊟ num (pos 1)) ⊠ r) ≡ m ⊠ (num (pos 1) ⊟ r)
          last m k r = by_ring ring√ (m ∷ k ∷ r ∷ []) (search poly depth 40) refl

      turn : (r : RootTwo) → r ⊟ num (pos 1) ≡ neg (num (pos 1) ⊟ r)
      turn r = by_ring ring√ (r ∷ []) (search poly depth 30) refl

      clash : num (pos 1) ⊟ √2 ≡ num (pos 0) → ⊥
      clash f = no (sym (ap (λ (x : RootTwo). x.p) whole) ∙ zero-p (num (pos 1) ⊟ √2) f)
        where
          whole : num (pos 1) ⊟ √2 ≡ at (pos 1) (negsuc 0)
          whole = simp parts refl

          no : pos 1 ≡ pos 0 → ⊥
          no h = let y : ◌≡◌ {A = ℕ} 1 0 = cc in omega arith

  pub same_row : (z w : RootTwo) → solved s t z ≡ true → solved s t w ≡ true → z.p ≡ w.p → (z.q ≺ w.q) ⊎ (w.q ≺ z.q) → ⊥
  same_row z w hz hw e (inl l) = no-later z w hz hw e l
  same_row z w hz hw e (inr l) = no-later w z hw hz (sym e) l

-- a strip at most 1 wide is at most 2 wide where it is not scaled
pub wide-one : (t : Band) (α u : RootTwo) → pos 1 ≼ t.m → u ≡ at (pos 1) (pos 0) → Wide (pos 1) t → Wide (pos 2) (second_of t α u)
wide-one t α u one e n =
    nn_by (step (num t.m) t.hi t.lo (conj α) ∙ ap (λ x. num (pos 2) ⊠ num t.m ⊟ (x ⊠ (t.hi ⊟ num t.m ⊠ conj α) ⊟ x ⊠ (t.lo ⊟ num t.m ⊠ conj α))) (sym unit))
    (nn-+ n (nn_num (≼_trans (pos 0) (pos 1) t.m (record { le = tt }) one)))
  where
    unit : conj u ≡ num (pos 1)
    unit = ap conj (e ∙ sym (num_parts (pos 1))) ∙ conj_num (pos 1)

    step : (m h l a : RootTwo) → num (pos 1) ⊠ m ⊟ (h ⊟ l) ⊞ m ≡ num (pos 2) ⊠ m ⊟ (num (pos 1) ⊠ (h ⊟ m ⊠ a) ⊟ num (pos 1) ⊠ (l ⊟ m ⊠ a))
    step m h l a = by_ring ring√ (m ∷ h ∷ l ∷ a ∷ []) (search poly depth 40) refl

-- ---- the text's a_max: 2a ≤ I_r + J_r
pub row_last : (f g : Band) (z : RootTwo) → pos 0 ≼ f.m → pos 0 ≼ g.m → solved f g z ≡ true → below (record { m = pos 2 *ℤ f.m *ℤ g.m; lo = f.lo; hi = num g.m ⊠ f.hi ⊞ num f.m ⊠ g.hi }) (at z.p (pos 0)) ≡ true
row_last f g z p q hz =
    (nn_by (step (num f.m) (num g.m) z (conj z) f.hi g.hi ∙ ap (λ x. num g.m ⊠ f.hi ⊞ num f.m ⊠ g.hi ⊟ x) (sym sum))
    (nn-+ (nn-* (nn_num q) (bounds f g z hz).hi) (nn-* (nn_num p) (bounds f g z hz).conj-hi))).nn
  where
    step : (m n z w h k : RootTwo) → n ⊠ (h ⊟ m ⊠ z) ⊞ m ⊠ (k ⊟ n ⊠ w) ≡ n ⊠ h ⊞ m ⊠ k ⊟ m ⊠ n ⊠ (z ⊞ w)
    step m n z w h k = by_ring ring√ (m ∷ n ∷ z ∷ w ∷ h ∷ k ∷ []) (search poly depth 40) refl

    double : (m n k : RootTwo) → num (pos 2) ⊠ m ⊠ n ⊠ k ≡ m ⊠ n ⊠ (k ⊞ k)
    double m n k = by_ring ring√ (m ∷ n ∷ k ∷ []) (search poly depth 40) refl

    sum : num (pos 2 *ℤ f.m *ℤ g.m) ⊠ at z.p (pos 0) ≡ num f.m ⊠ num g.m ⊠ (z ⊞ conj z)
    sum =
        ap₂ ◌⊠◌ (num-* (pos 2 *ℤ f.m) g.m ∙ ap (λ x. x ⊠ num g.m) (num-* (pos 2) f.m)) (sym (num_parts z.p))
        ∙ double (num f.m) (num g.m) (num z.p) ∙ ap (λ x. num f.m ⊠ num g.m ⊠ x) (sym (twice z))

-- ---- the rows a' of the pairs with a from `from` to `to`
abbrev pub end_of : RootTwo → ℤ → RootTwo → RootTwo → RootTwo
end_of u k x y = u ⊠ (num k ⊟ x) ⊞ y

abbrev pub rows_in : Band → Band → RootTwo → RootTwo → ℤ → ℤ → Band
rows_in t g α u a b = record { m = pos 2 *ℤ t.m; lo = end_of u (pos 2 *ℤ t.m *ℤ (a -ℤ α.p)) t.hi g.lo; hi = end_of u (pos 2 *ℤ t.m *ℤ (b -ℤ α.p)) t.lo g.hi }

abbrev pub rows_of : Band → RootTwo → RootTwo → ℤ → ℤ → Band
rows_of t α u a b = rows_in (shift_of t (conj α)) (second_of t α u) α u a b

module _ (s t : Band) (α u : RootTwo) (e : Even u) (one : pos 1 ≼ t.m) (w : RootTwo) (hw : solved s t w ≡ true) where
  abbrev x : RootTwo
  x = w ⊟ α

  abbrev y : RootTwo
  y = u ⊠ x

  first : Bounds (shift_of s α) (shift_of t (conj α)) x
  first = bounds _ _ x (sym (shift-holds s t α w) ∙ hw)

  second : Bounds (first_of s α u) (second_of t α u) y
  second = bounds _ _ y (sym (steps_hold s t α u w e) ∙ hw)

  both-p : num (pos 2) ⊠ num y.p ≡ u ⊠ (num x.p ⊞ num x.p ⊟ conj x) ⊞ conj y
  both-p = double (num y.p) ∙ sym (twice y) ∙ ap (λ t. u ⊠ t ⊞ conj y) (sym (from-conj x))
    where
      double : (k : RootTwo) → num (pos 2) ⊠ k ≡ k ⊞ k
      double k = by_ring ring√ (k ∷ []) (search poly depth 30) refl

  product : (k : ℤ) → num (pos 2 *ℤ t.m *ℤ k) ≡ num (pos 2) ⊠ num t.m ⊠ num k
  product k = num-* (pos 2 *ℤ t.m) k ∙ ap (λ z. z ⊠ num k) (num-* (pos 2) t.m)

  scaled : num (pos 2 *ℤ t.m) ⊠ at y.p (pos 0) ≡ num t.m ⊠ (u ⊠ (num x.p ⊞ num x.p ⊟ conj x) ⊞ conj y)
  scaled = ap₂ ◌⊠◌ (num-* (pos 2) t.m) (sym (num_parts y.p)) ∙ regroup (num t.m) (num y.p) ∙ ap (λ z. num t.m ⊠ z) both-p
    where
      regroup : (m k : RootTwo) → num (pos 2) ⊠ m ⊠ k ≡ m ⊠ (num (pos 2) ⊠ k)
      regroup m k = by_ring ring√ (m ∷ k ∷ []) (search poly depth 30) refl

  moved : (a b c : ℤ) → a ≼ b → a -ℤ c ≼ b -ℤ c
  moved = by⊖ _ λ p p'. by⊖ _ λ q q'. by⊖ _ λ r r'. simp zz (omega arith)

  m-nn : Nn (num t.m)
  m-nn = nn_num (≼_trans (pos 0) (pos 1) t.m (record { le = tt }) one)

  module _ (a b : ℤ) where
    pub row_from : a ≼ w.p → above (rows_of t α u a b) (at y.p (pos 0)) ≡ true
    row_from h =
        (nn_by (step (num t.m) u (num x.p) (num k) (conj x) (conj y) h1 l2 ∙ ap₂ (λ p q. p ⊟ (u ⊠ (q ⊟ h1) ⊞ l2)) (sym scaled) (sym (product k)))
        (nn-+ (nn-* (even-unit e).nn (nn-+ (nn-+ more more) first.conj-hi)) second.conj-lo)).nn
      where
        k : ℤ
        k = a -ℤ α.p

        h1 : RootTwo
        h1 = (shift_of t (conj α)).hi

        l2 : RootTwo
        l2 = (second_of t α u).lo

        more : Nn (num t.m ⊠ (num x.p ⊟ num k))
        more = nn-* m-nn (num-⊑ (subst (λ j. k ≼ j) (sym (less-p w α)) (moved a w.p α.p h)))

        step : (m u p k c d h l : RootTwo) → u ⊠ (m ⊠ (p ⊟ k) ⊞ m ⊠ (p ⊟ k) ⊞ (h ⊟ m ⊠ c)) ⊞ (m ⊠ d ⊟ l) ≡ m ⊠ (u ⊠ (p ⊞ p ⊟ c) ⊞ d) ⊟ (u ⊠ (num (pos 2) ⊠ m ⊠ k ⊟ h) ⊞ l)
        step m u p k c d h l = by_ring ring√ (m ∷ u ∷ p ∷ k ∷ c ∷ d ∷ h ∷ l ∷ []) (search poly depth 60) refl
