-- Every accepted region lies within ±20000 both ways, so that a point of it is at most 20000 w/n from the axes.
use Rattle.std.specs.Prelude.{◌≡◌, refl, [], ◌∷◌, true, ℕ, zero, suc, ◌+◌, ◌*◌, ◌≤◌, ℤ, pos, negsuc, nat_abs, ◌+ℤ◌, ◌-ℤ◌, ◌*ℤ◌}
use Rattle.std.proofs.Common.{le_refl, arith, le→leb}
use Rattle.integers.specs.Difference.{◌≼◌}
use Rattle.integers.specs.lemmas.Ring.{poly, by_ring}
use Rattle.integers.specs.lemmas.Size.{size-+, size--, size-*, size-*≤}
use Rattle.ring.specs.declared.RootTwo.{RootTwo}
use Rattle.ring.specs.RootTwo.{◌⊞◌, ◌⊟◌, ◌⊠◌, neg, num, ring√}
use Rattle.ring.specs.RootTwo.Order.{Nn, ◌⊑◌, nn_by}
use Rattle.region.specs.declared.Ellipse.{Ellipse}
use Rattle.region.specs.declared.Region.{Region}
use Rattle.region.specs.declared.Region.TheVariants as R
use Rattle.region.specs.Region.{discriminant, accepted, disk, holds}
use Rattle.region.specs.Reach.{width2}
use Rattle.region.specs.Accepted.{size-≼, EllipseLimits, rectangle-limits, ellipse-limits, disk-accepted}
use Rattle.region.specs.lemmas.Membership.{holds-accepted}
use Rattle.region.specs.Over.{scale, Over, over-more, wide_enough, over-rectangle, over-ellipse}
use Rattle.region.specs.Slice.{over-disk}
use Rattle.region.specs.Span.{box_side, Span}

-- ---- along an axis: |u| + |v| ≤ 1
axis : (x y : ℕ) → x + y ≤ 1 → (x * y ≡ 0) × (x * x + y * y ≤ 1)
axis zero zero h = (refl, omega arith)
axis zero (suc zero) h = (refl, omega arith)
axis zero (suc (suc y)) h = absurd (omega arith)
axis (suc zero) zero h = (refl, omega arith)
axis (suc (suc x)) y h = absurd (omega arith)
axis (suc zero) (suc y) h = absurd (omega arith)

width_axis : (e : Ellipse) (u v : ℤ) → EllipseLimits e → nat_abs u + nat_abs v ≤ 1 → nat_abs (width2 e u v) ≤ 100
width_axis e u v l h =
    let a = axis (nat_abs u) (nat_abs v) h in
    let x = size-*≤ (u *ℤ u) (pos e.r) (nat_abs u * nat_abs u) 100 (rw size-* (le_refl _)) l.r-high in
    let y = size-*≤ (v *ℤ v) (pos e.p) (nat_abs v * nat_abs v) 100 (rw size-* (le_refl _)) l.p-high in
    let z = size-*≤ (u *ℤ v) e.q 0 100 (omega (arith, size-* u v)) l.q-size in
    let t = size-*≤ (pos 2) (u *ℤ v *ℤ e.q) 2 0 (omega arith) z in
    omega (arith, size-- (u *ℤ u *ℤ pos e.r) (pos 2 *ℤ (u *ℤ v *ℤ e.q)), size-+ (u *ℤ u *ℤ pos e.r -ℤ pos 2 *ℤ (u *ℤ v *ℤ e.q)) (v *ℤ v *ℤ pos e.p))

over-box-ellipse : (e : Ellipse) (u v : ℤ) → nat_abs u + nat_abs v ≤ 1 → accepted (R.Ellipse e) ≡ true → Over (R.Ellipse e) u v (pos box_side)
over-box-ellipse e u v h a =
    let l = ellipse-limits e a in
    let s = size-*≤ (pos e.s) (width2 e u v) 1000000 100 l.s-high (width_axis e u v l h) in
    over-more (R.Ellipse e) u v _ _ (size-≼ _ box_side (centre l))
    (over-ellipse e u v (pos 10000) (record { le = le→leb 1 e.p l.p-low }) l.positive (record { le = tt }) (wide_enough (pos e.s *ℤ width2 e u v) (discriminant e) 10000 s l.positive))
  where
    centre : EllipseLimits e → nat_abs (u *ℤ e.cx +ℤ v *ℤ e.cy +ℤ pos 10000) ≤ box_side
    centre l =
        let x = size-*≤ u e.cx (nat_abs u) 10000 (le_refl _) l.cx-size in
        let y = size-*≤ v e.cy (nat_abs v) 10000 (le_refl _) l.cy-size in
        omega (arith, size-+ (u *ℤ e.cx) (v *ℤ e.cy), size-+ (u *ℤ e.cx +ℤ v *ℤ e.cy) (pos 10000))

pub over-box : (r : Region) (u v : ℤ) → nat_abs u + nat_abs v ≤ 1 → accepted r ≡ true → Over r u v (pos box_side)
over-box (R.Rectangle r) u v h a =
    let l = rectangle-limits r a in
    over-rectangle r u v (pos 10000) (pos 10000) (end u r.xl (omega arith) l.xl-size) (end u r.xh (omega arith) l.xh-size) (end v r.yl (omega arith) l.yl-size)
    (end v r.yh (omega arith) l.yh-size)
  where
    end : (u z : ℤ) → nat_abs u ≤ 1 → nat_abs z ≤ 10000 → u *ℤ z ≼ pos 10000
    end u z h k = size-≼ (u *ℤ z) 10000 (size-*≤ u z 1 10000 h k)
over-box (R.Ellipse e) u v h a = over-box-ellipse e u v h a
over-box (R.Slice s) u v h a = over-disk s u v (pos box_side) (over-box-ellipse (disk s) u v h (disk-accepted s a))

-- ---- both ways
pub holds-box : (r : Region) (w X Y : RootTwo) → Nn w → holds r w X Y ≡ true
    → let n = num (pos (scale r)) in
    let b = num (pos box_side) ⊠ w in
    Span b (n ⊠ X) × Span b (n ⊠ Y)
holds-box r w X Y hw m = (
  record { up = nn_by (east _ _ _) (reach (pos 1) (pos 0) (omega arith)); down = nn_by (west _ _ _) (reach (negsuc 0) (pos 0) (omega arith)) },
  record { up = nn_by (north _ _ _) (reach (pos 0) (pos 1) (omega arith)); down = nn_by (south _ _ _) (reach (pos 0) (negsuc 0) (omega arith)) },
)
  where
    reach : (u v : ℤ) → nat_abs u + nat_abs v ≤ 1 → num u ⊠ (num (pos (scale r)) ⊠ X) ⊞ num v ⊠ (num (pos (scale r)) ⊠ Y) ⊑ num (pos box_side) ⊠ w
    reach u v h = over-box r u v h (holds-accepted r w X Y m) w X Y hw m

    east : (b x y : RootTwo) → b ⊟ (num (pos 1) ⊠ x ⊞ num (pos 0) ⊠ y) ≡ b ⊟ x
    east b x y = by_ring ring√ (b ∷ x ∷ y ∷ []) (search poly depth 30) refl

    west : (b x y : RootTwo) → b ⊟ (num (negsuc 0) ⊠ x ⊞ num (pos 0) ⊠ y) ≡ b ⊟ neg x
    west b x y = by_ring ring√ (b ∷ x ∷ y ∷ []) (search poly depth 30) refl

    north : (b x y : RootTwo) → b ⊟ (num (pos 0) ⊠ x ⊞ num (pos 1) ⊠ y) ≡ b ⊟ y
    north b x y = by_ring ring√ (b ∷ x ∷ y ∷ []) (search poly depth 30) refl

    south : (b x y : RootTwo) → b ⊟ (num (pos 0) ⊠ x ⊞ num (negsuc 0) ⊠ y) ≡ b ⊟ neg y
    south b x y = by_ring ring√ (b ∷ x ∷ y ∷ []) (search poly depth 30) refl
