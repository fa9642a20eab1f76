use mathlib.Core.Path.{◌≡◌, sym, ◌∙◌, ap}
use Prim.Native.Nat.{◌^◌, ◌≤◌}
use native.Mathlib.Omega.{arith}
use lib.IntN.{ℤ, pos, nat_abs, ◌+ℤ◌, ◌*ℤ◌}
use lib.Signed.{yes_non_neg, pos-nat_abs}
use mir.Syntax.{w16, w32, w64}
use mir.Val.{SFits, to_z, of_z}
use mir.Facts.{to_z-of_z}
use borrow.Author.Rules.{rules}
use borrow.Author.Tests.{not-false}
use Rattle.integers.specs.lemmas.Order.{≺→≼}
use Rattle.integers.specs.lemmas.Tests.{lt_z_true}
use Rattle.integers.specs.lemmas.Size.{back}
use Rattle.region.specs.declared.Slice.{Slice}
use Rattle.region.specs.Accepted.{SliceLimits, slice-limits}
use Rattle.region.specs.lemmas.HalfWidth.{positive-nn, one_size}
use Rattle.region.specs.Slice.{OnePoint, one-point}
use Rattle.region.specs.ReachOver.{point-bounds}
use Rattle.plane_lengths.proofs.Casts.{widen_fits, widened}
use Rattle.region_extent.proofs.half.point.Statement.{statement}
use Rattle.region_extent.proofs.half.point.Tie as tie

is-point-requires : tie.Need-is_point-requires
is-point-requires c κs = search rules

returns : tie.Need-returns-then-not-is_point
returns c = search rules

-- where the slice is one point
module _ (c : tie.Else-not-is_point) where
  abbrev start : tie.Start
  start = c.before.before

  abbrev s : Slice
  s = start.args.s

  one : OnePoint s
  one = one-point s (sym c.is_point.ensures ∙ c.if-not-is_point.false)

  limits : SliceLimits s
  limits = slice-limits s start.requires.0

  w_fits : SFits w32 s.w
  w_fits = search rules

  x_fits : SFits w16 s.zx
  x_fits = search rules

  y-fits : SFits w16 s.zy
  y-fits = search rules

cast-abs : tie.Need-overflow_cast-s
cast-abs c = widen_fits tt (w_fits c.before.before)

abs-requires : tie.Need-abs-w-requires
abs-requires c κs = search rules

inner-requires : tie.Need-inner-requires
inner-requires c κs = search rules

-- where `inner` was called
abbrev at_inner : tie.After-inner → tie.Else-not-is_point
at_inner c = c.before.before.before.before.before.before

multiplied-requires : tie.Need-multiplied-requires
multiplied-requires c κs = ((limits (at_inner c)).n-high, rw (back w64 c.inner.type_inv) c.inner.ensures.1)

-- n²·(u·zx + v·zy) and w
module _ (c : tie.After-multiplied) where
  abbrev k : tie.Else-not-is_point
  k = at_inner c.before

  abbrev t : ℤ
  t = pos (s k).n *ℤ pos (s k).n *ℤ ((start k).args.u *ℤ (s k).zx +ℤ (start k).args.v *ℤ (s k).zy)

  inner-is : to_z w64 (of_z w64 c.inner.result) ≡ (start k).args.u *ℤ (s k).zx +ℤ (start k).args.v *ℤ (s k).zy
  inner-is = back w64 c.inner.type_inv ∙ (rw (to_z-of_z (start k).ranges.u, to_z-of_z (start k).ranges.v, to_z-of_z (x_fits k), to_z-of_z (y-fits k)) at c.inner.ensures.0)

  t-is : to_z w64 (of_z w64 c.multiplied.result) ≡ t
  t-is = back w64 c.multiplied.type_inv ∙ (rw inner-is at c.multiplied.ensures.0)

  t-size : nat_abs (to_z w64 (of_z w64 c.multiplied.result)) ≤ 2 ^ 62
  t-size = rw (back w64 c.multiplied.type_inv) (omega (arith, c.multiplied.ensures.1))

  w-is : c.abs-w.result ≡ nat_abs (s k).w
  w-is = rw (widened tt (w_fits k)) at c.abs-w.ensures

  w-pos : pos c.abs-w.result ≡ (s k).w
  w-pos = ap pos w-is ∙ pos-nat_abs (s k).w (yes_non_neg (positive-nn (s k).w (one k).positive))

quotient-requires : tie.Need-quotient-h-requires
quotient-requires c κs = (t-size c, rw (w-is c) (one_size (s (k c)).w (one (k c)).positive), rw (w-is c) (limits (k c)).w-size)

returns-2 : tie.Need-returns-then-h-d
returns-2 c =
    let q = c in
    let m = q.before in
    let i = start (k m.before) in
    let h = q.quotient-h.result in
    let r = back w64 {z = h} q.quotient-h.type_inv in
    let l = ≺→≼ h i.args.d (lt_z_true h i.args.d (rw (r, to_z-of_z i.ranges.d) at c.if-h-d.true)) in
    rw r (point-bounds (s (k m.before)) i.args.u i.args.v i.args.d h m.abs-w.result (one (k m.before)) (w-pos m.before) (rw (t-is m.before) at q.quotient-h.ensures) l i.requires.1)

returns-3 : tie.Need-returns-else-h-d
returns-3 c = search rules

pub point_spec : {M : Type 1} → statement M
point_spec =
    tie.close
    (tie.spec
    is-point-requires
    returns
    cast-abs
    abs-requires
    inner-requires
    multiplied-requires
    quotient-requires
    returns-2
    returns-3)
