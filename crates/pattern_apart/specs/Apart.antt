-- Two regions have no common point where in some direction the one ends before the other begins.
use Rattle.std.specs.Prelude.{◌≡◌, refl, Bool, true, [], ◌∷◌, ℕ, suc, ◌^◌, ◌≤◌, ◌<◌, T, ℤ, pos, neg_ℤ, nat_abs, ◌+ℤ◌, ◌*ℤ◌}
use Rattle.std.proofs.Common.{sym, ap₂, subst, subst₂, ◌∙◌, zero-le, arith, le→leb}
use Rattle.std.specs.Int.Signed.{lt_z}
use Rattle.integers.specs.Difference.{◌≼◌}
use Rattle.integers.specs.lemmas.Order.{≺-irrefl}
use Rattle.integers.specs.lemmas.Size.{size-+, size-*≤}
use Rattle.integers.specs.lemmas.Ring.{poly, by_ring}
use Rattle.ring.specs.declared.RootTwo.{RootTwo}
use Rattle.ring.specs.RootTwo.{◌⊞◌, ◌⊟◌, ◌⊠◌, neg, num, ring√, num-+, num-*, num_neg}
use Rattle.ring.specs.RootTwo.Order.{◌⊑◌, nn_by, nn-+, nn-*, nn_num, num_nn, nn_cancel}
use Rattle.ring.specs.RootTwo.Power.{√2^, √2^-zero, √2^-nn, √2^-≤}
use Rattle.region.specs.declared.Region.{Region}
use Rattle.region.specs.declared.Region.TheVariants as R
use Rattle.region.specs.Region.{accepted, check_of, in_range_e, holds}
use Rattle.region.specs.Over.{scale, scale-limits, Over}
use Rattle.region.specs.Reach.{reach_of}
use Rattle.region.specs.ReachOver.{reach_over, reach_size_lem}
use Rattle.region.specs.Void.{is_void, void_none}

-- the squares of X and Y add up to at most 1
abbrev pub disk : Region
disk = R.Ellipse (record { n = 1; cx = pos 0; cy = pos 0; p = 1; q = pos 0; r = 1; s = 1 })

pub disk-accepted : accepted disk ≡ true
unfolding accepted check_of in_range_e
disk-accepted = refl

pub record ApartIf (r s : Region) (b : Bool) : Type 0 where
  pub none : b ≡ true → (k : ℕ) (X Y : RootTwo) → holds r (√2^ (suc k)) X Y ≡ true → holds s (√2^ (suc k)) X Y ≡ true → ⊥

pub void_apart : (r s : Region) → is_void r ≡ true → ApartIf r s true
void_apart r s h = record { none = λ e k X Y x y. void_none r k X Y h x }

-- ---- 0 ≤ z w leaves no z below 0
weight-one : (k : ℕ) → num (pos 1) ⊑ √2^ (suc k)
weight-one k = rw √2^-zero at (√2^-≤ 0 (suc k) (omega arith))

apart : (r s : Region) (u v h g : ℤ) → Over r u v h → Over s (neg_ℤ u) (neg_ℤ v) g → (k : ℕ) (X Y : RootTwo) → holds r (√2^ (suc k)) X Y ≡ true → holds s (√2^ (suc k)) X Y ≡ true
    → pos 0 ≼ pos (scale s) *ℤ h +ℤ pos (scale r) *ℤ g
apart r s u v h g p q k X Y x y =
    let w = √2^ (suc k) in
    let n = num (pos (scale r)) in
    let m = num (pos (scale s)) in
    let a = nn-* (nn_num {k = pos (scale s)} (record { le = le→leb 0 (scale s) zero-le })) (p w X Y (√2^-nn (suc k)) x) in
    let b = nn-* (nn_num {k = pos (scale r)} (record { le = le→leb 0 (scale r) zero-le })) (rw (num_neg u, num_neg v) at (q w X Y (√2^-nn (suc k)) y)) in
    let e = num-+ (pos (scale s) *ℤ h) (pos (scale r) *ℤ g) ∙ ap₂ ◌⊞◌ (num-* (pos (scale s)) h) (num-* (pos (scale r)) g) in
    num_nn _ (nn_by (sym e) (nn_cancel w _ (weight-one k) (nn_by (sum n m (num h) (num g) (num u) (num v) w X Y) (nn-+ a b))))
  where
    sum : (n m h g u v w X Y : RootTwo) →
        m ⊠ (h ⊠ w ⊟ (u ⊠ (n ⊠ X) ⊞ v ⊠ (n ⊠ Y))) ⊞ n ⊠ (g ⊠ w ⊟ (neg u ⊠ (m ⊠ X) ⊞ neg v ⊠ (m ⊠ Y))) ≡ w ⊠ (m ⊠ h ⊞ n ⊠ g)
    sum n m h g u v w X Y = by_ring ring√ (n ∷ m ∷ h ∷ g ∷ u ∷ v ∷ w ∷ X ∷ Y ∷ []) (search poly depth 30 fits 5000) refl

-- ---- a direction and its opposite
pub record Opposite (u v p q : ℤ) : Type 0 where
  pub u-size : nat_abs u ≤ 1000
  pub v-size : nat_abs v ≤ 1000
  pub p-size : nat_abs p ≤ 1000
  pub q-size : nat_abs q ≤ 1000
  pub first : p ≡ neg_ℤ u
  pub second : q ≡ neg_ℤ v
  pub third : u ≡ neg_ℤ p
  pub fourth : v ≡ neg_ℤ q

pub turned : {u v p q : ℤ} → Opposite u v p q → Opposite p q u v
turned o = record { u-size = o.p-size; v-size = o.q-size; p-size = o.u-size; q-size = o.v-size; first = o.third; second = o.fourth; third = o.first; fourth = o.second }

pub reach_small : (r : Region) (u v : ℤ) → accepted r ≡ true → nat_abs u ≤ 1000 → nat_abs v ≤ 1000 → nat_abs (reach_of r u v) ≤ 2 ^ 31
reach_small r u v a i j = reach_size_lem r u v a (omega arith) (omega arith)

-- the sizes of the sum
pub record SumSizes (m h n g : ℤ) : Type 0 where
  pub first : nat_abs (m *ℤ h) < 2 ^ 40
  pub second : nat_abs (n *ℤ g) < 2 ^ 40
  pub sum : nat_abs (m *ℤ h +ℤ n *ℤ g) < 2 ^ 41

module _ (r s : Region) (u v p q : ℤ) (a : accepted r ≡ true) (b : accepted s ≡ true) (o : Opposite u v p q) where
  pub sum-sizes : SumSizes (pos (scale s)) (reach_of r u v) (pos (scale r)) (reach_of s p q)
  sum-sizes =
      let h = reach_of r u v in
      let g = reach_of s p q in
      let c = size-*≤ (pos (scale s)) h 100 (2 ^ 31) (scale-limits s b).1 (reach_small r u v a o.u-size o.v-size) in
      let d = size-*≤ (pos (scale r)) g 100 (2 ^ 31) (scale-limits r a).1 (reach_small s p q b o.p-size o.q-size) in
      record { first = omega arith; second = omega arith; sum = omega (arith, size-+ (pos (scale s) *ℤ h) (pos (scale r) *ℤ g)) }

  pub apart_if : (t : Bool) → t ≡ lt_z (pos (scale s) *ℤ reach_of r u v +ℤ pos (scale r) *ℤ reach_of s p q) (pos 0) → ApartIf r s t
  apart_if t f = record {
    none = λ e k X Y c d.
        let i = o.u-size in
        let j = o.v-size in
        let x = o.p-size in
        let y = o.q-size in
        let over : Over s (neg_ℤ u) (neg_ℤ v) (reach_of s p q) = subst₂ (λ a b. Over s a b (reach_of s p q)) o.first o.second (reach_over s p q (omega arith) (omega arith)) in
        ≺-irrefl _ _ (record { lt = subst T (sym (sym f ∙ e)) tt }) (apart r s u v (reach_of r u v) (reach_of s p q) (reach_over r u v (omega arith) (omega arith)) over k X Y c d);
  }
