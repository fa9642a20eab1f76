use mathlib.Core.Path.{◌≡◌, sym, ◌∙◌, subst}
use Prim.Native.Nat.{◌≤◌, ◌^◌}
use native.Mathlib.Omega.{arith}
use lib.IntN.{pos, negsuc, nat_abs, ◌*ℤ◌}
use mir.Syntax.{w16, w64}
use mir.Val.{SFits, to_z}
use mir.Facts.{to_z-of_z, to_z_pos, sfits_widen}
use borrow.Author.Rules.{rules}
use Rattle.integers.specs.lemmas.Size.{size-*≤, size→fits}
use Rattle.ring.specs.declared.RootTwo.{RootTwo}
use Rattle.ring.specs.RootTwo.{◌⊞◌, ◌⊠◌, num}
use Rattle.ring.specs.RootTwo.Sized.{Sized, room, products, product-size, combined_size}
use Rattle.region.specs.declared.Ellipse.{Ellipse}
use Rattle.region.specs.Accepted.{EllipseLimits, ellipse-limits}
use Rattle.question_strips.specs.Reach.{width_is}
use Rattle.question_strips.proofs.reach.width.Statement.{statement}
use Rattle.question_strips.proofs.reach.width.Tie as tie

module _ (s : tie.Start) where
  abbrev e : Ellipse
  e = s.args.e

  abbrev u : RootTwo
  u = s.args.u

  abbrev v : RootTwo
  v = s.args.v

  limits : EllipseLimits e
  limits = ellipse-limits e s.requires.0

  r-is : to_z w64 e.r ≡ pos e.r
  r-is = to_z_pos w64 {n = e.r} (omega (arith, limits.r-high))

  p-is : to_z w64 e.p ≡ pos e.p
  p-is = to_z_pos w64 {n = e.p} (omega (arith, limits.p-high))

  q-fits : SFits w16 e.q
  q-fits = size→fits (omega (arith, limits.q-size))

  q-wide : SFits w64 e.q
  q-wide = sfits_widen tt q-fits

  twice-size : nat_abs (negsuc 1 *ℤ e.q) ≤ 200
  twice-size = size-*≤ (negsuc 1) e.q 2 100 (omega arith) limits.q-size

  twice : SFits w64 (negsuc 1 *ℤ e.q)
  twice = size→fits (omega (arith, twice-size))

  uu : Sized 120000 120000 (u ⊠ u)
  uu = product-size u u 200 200 s.requires.1.first s.requires.1.first 120000 (omega arith)

  vv : Sized 120000 120000 (v ⊠ v)
  vv = product-size v v 200 200 s.requires.1.second s.requires.1.second 120000 (omega arith)

  uv : Sized 120000 120000 (u ⊠ v)
  uv = product-size u v 200 200 s.requires.1.first s.requires.1.second 120000 (omega arith)

  squares : Sized 24000000 24000000 (num (pos e.r) ⊠ (u ⊠ u) ⊞ num (pos e.p) ⊠ (v ⊠ v))
  squares = combined_size (pos e.r) (pos e.p) (u ⊠ u) (v ⊠ v) 100 120000 100 120000 24000000 limits.r-high uu limits.p-high vv (omega arith)

cast-combined : tie.Need-overflow_cast-e
cast-combined c = search rules

product-requires : tie.Need-product-requires
product-requires c κs = let d = c.requires.1.first in products _ _ 200 200 d d (omega arith)

cast-combined-2 : tie.Need-overflow_cast-e-2
cast-combined-2 c = search rules

product-requires-2 : tie.Need-product-requires-2
product-requires-2 c κs = let d = c.requires.1.second in products _ _ 200 200 d d (omega arith)

combined-requires : tie.Need-combined-f-requires
combined-requires c κs =
    let s = c.before.before.before.before in
    rw (r-is s, p-is s, c.product.ensures, c.product-2.ensures)
    (room (pos (e s).r) (pos (e s).p) (u s ⊠ u s) (v s ⊠ v s) 100 120000 100 120000 (limits s).r-high (uu s) (limits s).p-high (vv s) (omega arith))

cast-combined-3 : tie.Need-overflow_cast-e-3
cast-combined-3 c = let s = c.before.before.before.before.before.before.before in rw (to_z-of_z (q-fits s)) (q-wide s)

mul-combined : tie.Need-overflow_mul-e
mul-combined c = let s = c.before.before.before.before.before.before.before in simp (to_z-of_z (q-fits s), to_z-of_z (q-wide s)) (twice s)

product-requires-3 : tie.Need-product-requires-3
product-requires-3 c κs = let d = c.requires.1 in products _ _ 200 200 d.first d.second (omega arith)

-- the sum of the two squares
sum_is : (c : tie.After-combined-f) → let s = c.before.before.before.before.before in c.combined-f.result ≡ num (pos (e s).r) ⊠ (u s ⊠ u s) ⊞ num (pos (e s).p) ⊠ (v s ⊠ v s)
sum_is c =
    let s = c.before.before.before.before.before in
    rw (r-is s, p-is s, c.product.ensures, c.product-2.ensures) at c.combined-f.ensures

combined-requires-2 : tie.Need-combined-requires
combined-requires-2 c κs =
    let d = c.before.before.before in
    let s = d.before.before.before.before.before in
    simp (to_z-of_z (q-fits s), to_z-of_z (q-wide s), to_z-of_z (twice s), sum_is d, c.product-3.ensures)
    (room (pos 1) (negsuc 1 *ℤ (e s).q) _ (u s ⊠ v s) 1 24000000 200 120000 (omega arith) (squares s) (twice-size s) (uv s) (omega arith))

returns : tie.Need-returns
returns c =
    let d = c.before.before.before.before in
    let s = d.before.before.before.before.before in
    let f = simp (to_z-of_z (q-fits s), to_z-of_z (q-wide s), to_z-of_z (twice s), sum_is d, c.product-3.ensures) at c.combined.ensures in
    let size = combined_size (pos 1) (negsuc 1 *ℤ (e s).q) _ (u s ⊠ v s) 1 24000000 200 120000 (2 ^ 26) (omega arith) (squares s) (twice-size s) (uv s) (omega arith) in
    (f ∙ width_is (e s) (u s) (v s), subst (Sized (2 ^ 26) (2 ^ 26)) (sym f) size)

pub width_spec : {M : Type 1} → statement M
width_spec =
    tie.close
    (tie.spec
    cast-combined
    product-requires
    cast-combined-2
    product-requires-2
    combined-requires
    cast-combined-3
    mul-combined
    product-requires-3
    combined-requires-2
    returns)
