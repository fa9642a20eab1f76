-- Sizes of numbers whose parts have one bound, and of the ends of strips.
use Rattle.std.specs.Prelude.{◌≡◌, refl, [], ◌∷◌, ℕ, ◌+◌, ◌*◌, ◌^◌, ◌≤◌, ℤ, pos, negsuc, neg_ℤ, nat_abs, ◌-ℤ◌}
use Rattle.std.proofs.Common.{sym, ◌∙◌, ap, arith}
use Rattle.std.proofs.Math.IntN.{+ℤ_idl}
use Rattle.integers.specs.Difference.{◌≼◌}
use Rattle.integers.specs.lemmas.Order.{≼_trans}
use Rattle.integers.specs.lemmas.Ring.{poly, by_ring}
use Rattle.integers.specs.lemmas.Size.{size--}
use Rattle.ring.specs.declared.RootTwo.{RootTwo}
use Rattle.ring.specs.RootTwo.{◌⊞◌, ◌⊟◌, ◌⊠◌, neg, num, num_parts, num_neg, ring√}
use Rattle.ring.specs.RootTwo.Sized.{sized_more, product-size, sum-size, less-size, num_size}
use Rattle.ring.specs.RootTwo.Sized as both
use Rattle.line_rows.specs.declared.Band.{Band}
use Rattle.line_rows.specs.Row.{at, coordinate, Small}
use Rattle.line_rows.specs.Steps.{shift_of, times_of}

abbrev pub Sized : ℕ → RootTwo → Type 0
Sized n x = both.Sized n n x

-- ---- strips
pub record Ends (n : ℕ) (s : Band) : Type 0 where
  pub one : pos 1 ≼ s.m
  pub scale : nat_abs s.m ≤ 200
  pub lo : Sized n s.lo
  pub hi : Sized n s.hi

-- the ends of an interval, of a shifted strip, of a scaled one, and of the strip of rows
abbrev pub whole : ℕ
whole = 2 ^ 15

abbrev pub shifted : ℕ
shifted = 2 ^ 25

abbrev pub scaled : ℕ
scaled = 2 ^ 39

abbrev pub row_end : ℕ
row_end = 2 ^ 42

abbrev pub size_of_unit : ℕ
size_of_unit = 2 ^ 12

pub shift-size : (m : ℤ) (x w : RootTwo) → nat_abs m ≤ 200 → Sized whole x → Sized whole w → Sized shifted (x ⊟ num m ⊠ w)
shift-size m x w hm hx hw = less-size whole (3 * (200 * whole)) shifted x (num m ⊠ w) hx (product-size (num m) w 200 whole (num_size 200 m hm) hw (3 * (200 * whole)) (omega arith)) (omega arith)

pub shift-ends : (s : Band) (w : RootTwo) → Ends whole s → Sized whole w → Ends shifted (shift_of s w)
shift-ends s w e h = record { one = e.one; scale = e.scale; lo = shift-size s.m s.lo w e.scale e.lo h; hi = shift-size s.m s.hi w e.scale e.hi h }

pub times-ends : (s : Band) (u : RootTwo) → Ends shifted s → Sized size_of_unit u → Ends scaled (times_of s u)
times-ends s u e h =
    record {
      one = e.one;
      scale = e.scale;
      lo = product-size u s.lo size_of_unit shifted h e.lo scaled (omega arith);
      hi = product-size u s.hi size_of_unit shifted h e.hi scaled (omega arith);
    }

pub small : (n : ℕ) (s : Band) → n ≤ 2 ^ 60 → Ends n s → Small s
small n s l e = record {
  scale = omega (arith, e.scale);
  positive = ≼_trans (pos 0) (pos 1) s.m (record { le = tt }) e.one;
  lo = sized_more n (2 ^ 60) s.lo l e.lo;
  hi = sized_more n (2 ^ 60) s.hi l e.hi;
}

-- ---- the ends of the strip of rows
pub end-size : (u : RootTwo) (k : ℤ) (x y : RootTwo) → Sized size_of_unit u → nat_abs k ≤ shifted → Sized shifted x → Sized scaled y
    → Sized (2 ^ 26) (num k ⊟ x) × Sized (2 ^ 40) (u ⊠ (num k ⊟ x)) × Sized row_end (u ⊠ (num k ⊟ x) ⊞ y)
end-size u k x y hu hk hx hy =
    let a = less-size shifted shifted (2 ^ 26) (num k) x (num_size shifted k hk) hx (omega arith) in
    let b = product-size u (num k ⊟ x) size_of_unit (2 ^ 26) hu a (2 ^ 40) (omega arith) in
    (a, b, sum-size (2 ^ 40) scaled row_end (u ⊠ (num k ⊟ x)) y b hy (omega arith))

-- ---- what the code's sums are
pub less-is : (x y : RootTwo) → num (pos 1) ⊠ x ⊞ num (negsuc 0) ⊠ y ≡ x ⊟ y
less-is x y = by_ring ring√ (x ∷ y ∷ []) (search poly depth 30) refl

pub sum_is : (x y : RootTwo) → num (pos 1) ⊠ x ⊞ num (pos 1) ⊠ y ≡ x ⊞ y
sum_is x y = by_ring ring√ (x ∷ y ∷ []) (search poly depth 30) refl

pub shift_is : (m : ℤ) (x w : RootTwo) → num (pos 1) ⊠ x ⊞ num (pos 0 -ℤ m) ⊠ w ≡ x ⊟ num m ⊠ w
shift_is m x w = ap (λ t. num (pos 1) ⊠ x ⊞ t ⊠ w) (ap num (+ℤ_idl (neg_ℤ m)) ∙ num_neg m) ∙ step (num m) x w
  where
    step : (m x w : RootTwo) → num (pos 1) ⊠ x ⊞ neg m ⊠ w ≡ x ⊟ m ⊠ w
    step m x w = by_ring ring√ (m ∷ x ∷ w ∷ []) (search poly depth 30) refl

pub width_is : (k m : ℤ) (h l : RootTwo) → num k ⊠ at m (pos 0) ⊞ num (pos 1) ⊠ (num (negsuc 0) ⊠ h ⊞ num (pos 1) ⊠ l) ≡ num k ⊠ num m ⊟ (h ⊟ l)
width_is k m h l = ap (λ t. num k ⊠ t ⊞ num (pos 1) ⊠ (num (negsuc 0) ⊠ h ⊞ num (pos 1) ⊠ l)) (sym (num_parts m)) ∙ step (num k) (num m) h l
  where
    step : (k m h l : RootTwo) → k ⊠ m ⊞ num (pos 1) ⊠ (num (negsuc 0) ⊠ h ⊞ num (pos 1) ⊠ l) ≡ k ⊠ m ⊟ (h ⊟ l)
    step k m h l = by_ring ring√ (k ∷ m ∷ h ∷ l ∷ []) (search poly depth 30) refl

pub at_less : (k : ℤ) (x : RootTwo) → num (pos 1) ⊠ at k (pos 0) ⊞ num (negsuc 0) ⊠ x ≡ num k ⊟ x
at_less k x = ap (λ t. num (pos 1) ⊠ t ⊞ num (negsuc 0) ⊠ x) (sym (num_parts k)) ∙ less-is (num k) x

pub coordinate-size : (h t n : ℕ) → h + t ≤ n → nat_abs (coordinate h t) ≤ n
coordinate-size h t n l = omega (arith, size-- (pos t) (pos h))
