use mathlib.Core.Path.{◌≡◌, sym, subst}
use Prim.Native.Nat.{◌^◌, ◌≤◌}
use native.Mathlib.Omega.{arith}
use lib.IntN.{pos, negsuc, nat_abs, ◌+ℤ◌}
use mir.Syntax.{w64}
use mir.Val.{SFits, to_z, of_z}
use mir.Facts.{to_z-of_z}
use borrow.Author.Rules.{rules}
use Rattle.integers.specs.lemmas.Size.{size-+, size→fits, back}
use Rattle.ring.specs.declared.RootTwo.{RootTwo}
use Rattle.ring.specs.RootTwo.Sized.{Sized, room, combined_size}
use Rattle.region.specs.lemmas.HalfWidth.{one_size}
use Rattle.question_strips.specs.Strips.{end_size}
use Rattle.question_strips.proofs.units.width.Statement.{statement}
use Rattle.question_strips.proofs.units.width.Tie as tie

combined-requires : tie.Need-combined-d-requires
combined-requires c κs = room (pos 1) (negsuc 0) c.args.s.hi c.args.s.lo 1 end_size 1 end_size (omega arith) c.requires.hi (omega arith) c.requires.lo (omega arith)

-- the difference of the ends
module _ (c : tie.After-combined-d) where
  abbrev s : tie.Start
  s = c.before.before.before

  abbrev d : RootTwo
  d = c.combined-d.result

  d-size : Sized (2 ^ 38) (2 ^ 38) d
  d-size = subst (Sized (2 ^ 38) (2 ^ 38)) (sym c.combined-d.ensures) (combined_size (pos 1) (negsuc 0) s.args.s.hi s.args.s.lo 1 end_size 1 end_size (2 ^ 38) (omega arith) s.requires.hi (omega arith) s.requires.lo (omega arith))

  p-fits : SFits w64 d.p
  p-fits = size→fits (omega (arith, d-size.p))

  q-fits : SFits w64 d.q
  q-fits = size→fits (omega (arith, d-size.q))

near-root-requires : tie.Need-near_root-requires
near-root-requires c κs = rw (to_z-of_z (q-fits c.before)) (d-size c.before).q

sum-size : (c : tie.After-near_root) → nat_abs ((d c.before.before).p +ℤ c.near_root.result) ≤ 2 ^ 40
sum-size c =
    let k = c.before.before in
    let e = rw (to_z-of_z (q-fits k)) at c.near_root.ensures in
    omega (arith, e, (d-size k).p, (d-size k).q, size-+ (d k).p c.near_root.result)

sum : (c : tie.After-near_root) → SFits w64 ((d c.before.before).p +ℤ c.near_root.result)
sum c = size→fits (omega (arith, sum-size c))

add-abs : tie.Need-overflow_add-d
add-abs c =
    let n = c.before.before in
    let r : to_z w64 (of_z w64 c.near_root.result) ≡ c.near_root.result = back w64 c.near_root.type_inv in
    simp (to_z-of_z (p-fits n.before.before), r) (sum n)

abs-requires : tie.Need-abs-requires
abs-requires c κs = search rules

mul-result : tie.Need-overflow_mul-result
mul-result c =
    let n = c.before.before.before in
    let r : to_z w64 (of_z w64 c.near_root.result) ≡ c.near_root.result = back w64 c.near_root.type_inv in
    let e = simp (to_z-of_z (p-fits n.before.before), r, to_z-of_z (sum n)) at c.abs.ensures in
    omega (arith, e, sum-size n)

abs-requires-2 : tie.Need-abs-requires-2
abs-requires-2 c κs = search rules

div-result : tie.Need-nonzero_div-result
div-result c =
    let s = c in
    let m : SFits w64 c.args.s.m = size→fits (omega (arith, c.requires.scale)) in
    let e = rw (to_z-of_z m) at c.abs-2.ensures in
    omega (arith, e, one_size c.args.s.m c.requires.one)

returns : tie.Need-returns
returns c = search rules

pub width_spec : {M : Type 1} → statement M
width_spec =
    tie.close (tie.spec combined-requires near-root-requires add-abs abs-requires mul-result abs-requires-2 div-result returns)
