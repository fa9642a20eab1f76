use mathlib.Core.Path.{◌≡◌, sym, ◌∙◌}
use Prim.Native.Nat.{◌^◌, ◌≤◌}
use native.Mathlib.Omega.{arith}
use lib.IntN.{ℤ, pos, nat_abs, ◌+ℤ◌, ◌-ℤ◌, ◌*ℤ◌}
use mir.Syntax.{w16, w32, w64}
use mir.Val.{SFits, to_z, of_z}
use mir.Facts.{to_z-of_z}
use borrow.Author.Tests.{leb-true, not-false}
use Rattle.integers.specs.lemmas.Order.{≺→≼}
use Rattle.integers.specs.lemmas.Tests.{lt_z_true}
use Rattle.integers.specs.lemmas.Size.{size--, size-*≤, back}
use Rattle.region.specs.declared.Slice.{Slice}
use Rattle.region.specs.Accepted.{SliceLimits, slice-limits}
use Rattle.plane_lengths.specs.Rounded.{Length}
use Rattle.region.specs.ReachOver.{sum-bounds}
use borrow.Author.Rules.{rules}
use Rattle.region_extent.proofs.half.sum.Statement.{statement}
use Rattle.region_extent.proofs.half.sum.Tie as tie

along-requires : tie.Need-along-a-requires
along-requires c κs = search rules

along-requires-2 : tie.Need-along-b-requires
along-requires-2 c κs = search rules

is-short-requires : tie.Need-is_short-requires
is-short-requires c κs = search rules

returns : tie.Need-returns-then-not-is_short
returns c = search rules

is-short-requires-2 : tie.Need-is_short-requires-2
is-short-requires-2 c κs = search rules

returns-2 : tie.Need-returns-then-not-is_short-2
returns-2 c = search rules

-- q (u, v) + p z
module _ (c : tie.Else-not-is_short-2) where
  abbrev start : tie.Start
  start = c.before.before.before.before.before.before.before.before

  abbrev s : Slice
  s = start.args.s

  abbrev a : ℤ
  a = pos start.args.q *ℤ start.args.u +ℤ pos start.args.p *ℤ s.zx

  abbrev b : ℤ
  b = pos start.args.q *ℤ start.args.v +ℤ pos start.args.p *ℤ s.zy

  limits : SliceLimits s
  limits = slice-limits s start.requires.0

  a-is : to_z w64 (of_z w64 c.along-a.result) ≡ a
  a-is =
      let h : SFits w16 s.zx = search rules in
      let k = c.along-a in
      back w64 k.type_inv ∙ (rw (to_z-of_z start.ranges.u, to_z-of_z h) at k.ensures)

  b-is : to_z w64 (of_z w64 c.along-b.result) ≡ b
  b-is =
      let h : SFits w16 s.zy = search rules in
      let k = c.along-b in
      back w64 k.type_inv ∙ (rw (to_z-of_z start.ranges.v, to_z-of_z h) at k.ensures)

length-requires : tie.Need-length-m-requires
length-requires c κs =
    let x = c.is_short in
    let y = c.is_short-2 in
    ((limits c).n-high, leb-true _ 5000000 (sym x.ensures ∙ c.if-not-is_short.false), leb-true _ 5000000 (sym y.ensures ∙ c.if-not-is_short-2.false))

w_fits : (c : tie.Else-not-is_short-2) → SFits w32 (s c).w
w_fits c = search rules

less-requires : tie.Need-less-requires
less-requires c κs = let k = c.before.before in (c.length-m.ensures.size, (start k).requires.1, rw (to_z-of_z (w_fits k)) (limits k).w-size)

-- m − p w
module _ (c : tie.After-less) where
  abbrev parts : tie.Else-not-is_short-2
  parts = c.before.before.before

  abbrev e : ℤ
  e = pos c.length-m.result -ℤ pos (start parts).args.p *ℤ (s parts).w

  e-is : to_z w64 (of_z w64 c.less.result) ≡ e
  e-is = back w64 c.less.type_inv ∙ (rw (to_z-of_z (w_fits parts)) at c.less.ensures)

  e-size : nat_abs e ≤ 2 ^ 62
  e-size =
      let m = c.length-m in
      let p = (start parts).args.p in
      omega (arith, m.ensures.size, size-- (pos m.result) (pos p *ℤ (s parts).w), size-*≤ (pos p) (s parts).w (2 ^ 41) 1000000 (start parts).requires.1 (limits parts).w-size)

  long : Length (s parts).n (a parts) (b parts) c.length-m.result
  long = rw (a-is parts, b-is parts) at c.length-m.ensures

quotient-requires : tie.Need-quotient-h-requires
quotient-requires c κs = (rw (e-is c) (e-size c), (start (parts c)).requires.2, omega (arith, (start (parts c)).requires.3))

returns-3 : tie.Need-returns-then-h-d
returns-3 c =
    let q = c in
    let k = q.before in
    let i = start (parts k.before) in
    let t = rw (e-is k.before) at c.quotient-h.ensures in
    let r = back w64 {z = c.quotient-h.result} c.quotient-h.type_inv in
    let h = c.quotient-h.result in
    let l = ≺→≼ h i.args.d (lt_z_true h i.args.d (rw (r, to_z-of_z i.ranges.d) at c.if-h-d.true)) in
    rw r (sum-bounds (s (parts k.before)) i.args.u i.args.v i.args.d h c.length-m.result i.args.p i.args.q i.requires.2 (long k.before) t l i.requires.4)

returns-4 : tie.Need-returns-else-h-d
returns-4 c = search rules

pub sum_spec : {M : Type 1} → statement M
sum_spec =
    tie.close
    (tie.spec
    along-requires
    along-requires-2
    is-short-requires
    returns
    is-short-requires-2
    returns-2
    length-requires
    less-requires
    quotient-requires
    returns-3
    returns-4)
