use mathlib.Core.Path.{◌≡◌, refl, ◌∙◌}
use mathlib.Core.List.{[], ◌∷◌}
use native.Mathlib.Omega.{arith}
use lib.IntN.{ℤ, ◌+ℤ◌, ◌-ℤ◌, ◌*ℤ◌}
use mir.Syntax.{w64}
use mir.Val.{SFits, to_z, of_z}
use mir.Facts.{to_z-of_z}
use borrow.Author.Rules.{rules}
use Rattle.integers.specs.lemmas.RingZ.{by_ring, polyZ}
use Rattle.integers.specs.lemmas.Size.{back, size-+, size→fits}
use Rattle.operator.specs.declared.Operator.{Operator}
use Rattle.operator.specs.Operator.{det_root}
use Rattle.operator.specs.Bounded.{Fits16, crossed-size}
use Rattle.operator.proofs.determinant.root.Statement.{statement}
use Rattle.operator.proofs.determinant.root.Tie as tie

fits : (c : tie.Start) → Fits16 c.args.g
fits c = search rules

-- the four differences
module _ (g : Operator) where
  abbrev x1 : ℤ
  x1 = g.d *ℤ g.ci -ℤ g.di *ℤ g.c

  abbrev x2 : ℤ
  x2 = g.d *ℤ g.ai -ℤ g.di *ℤ g.a

  abbrev x3 : ℤ
  x3 = g.bi *ℤ g.c -ℤ g.b *ℤ g.ci

  abbrev x4 : ℤ
  x4 = g.b *ℤ g.ai -ℤ g.bi *ℤ g.a

  two : Fits16 g → SFits w64 (x1 +ℤ x2)
  two f = size→fits (omega (arith, size-+ x1 x2, crossed-size f.d f.ci f.di f.c, crossed-size f.d f.ai f.di f.a))

  three : Fits16 g → SFits w64 (x1 +ℤ x2 +ℤ x3)
  three f = size→fits (omega (arith, size-+ (x1 +ℤ x2) x3, size-+ x1 x2, crossed-size f.d f.ci f.di f.c, crossed-size f.d f.ai f.di f.a, crossed-size f.bi f.c f.b f.ci))

  four : Fits16 g → SFits w64 (x1 +ℤ x2 +ℤ x3 +ℤ x4)
  four f = size→fits (omega (arith, size-+ (x1 +ℤ x2 +ℤ x3) x4, size-+ (x1 +ℤ x2) x3, size-+ x1 x2, crossed-size f.d f.ci f.di f.c, crossed-size f.d f.ai f.di f.a, crossed-size f.bi f.c f.b f.ci, crossed-size f.b f.ai f.bi f.a))

  sum_is : x1 +ℤ x2 +ℤ x3 +ℤ x4 ≡ det_root g
  unfolding det_root
  sum_is = by_ring (g.a ∷ g.b ∷ g.c ∷ g.d ∷ g.ai ∷ g.bi ∷ g.ci ∷ g.di ∷ []) (search polyZ depth 60) refl

crossed-requires : tie.Need-crossed-requires
crossed-requires c κs = search rules

e1 : (c : tie.After-crossed) → to_z w64 (of_z w64 c.crossed.result) ≡ x1 c.args.g
e1 c = let f = fits c.before.before.before.before.before in back w64 c.crossed.type_inv ∙ rw (to_z-of_z f.d, to_z-of_z f.ci, to_z-of_z f.di, to_z-of_z f.c) at c.crossed.ensures

crossed-requires-2 : tie.Need-crossed-requires-2
crossed-requires-2 c κs = search rules

e2 : (c : tie.After-crossed-2) → to_z w64 (of_z w64 c.crossed-2.result) ≡ x2 c.args.g
e2 c = let f = fits c.before.before.before.before.before.before.before.before.before.before in back w64 c.crossed-2.type_inv ∙ rw (to_z-of_z f.d, to_z-of_z f.ai, to_z-of_z f.di, to_z-of_z f.a) at c.crossed-2.ensures

crossed-requires-3 : tie.Need-crossed-requires-3
crossed-requires-3 c κs = search rules

e3 : (c : tie.After-crossed-3) → to_z w64 (of_z w64 c.crossed-3.result) ≡ x3 c.args.g
e3 c = let f = fits c.before.before.before.before.before.before.before.before.before.before.before.before.before.before.before in back w64 c.crossed-3.type_inv ∙ rw (to_z-of_z f.bi, to_z-of_z f.c, to_z-of_z f.b, to_z-of_z f.ci) at c.crossed-3.ensures

crossed-requires-4 : tie.Need-crossed-requires-4
crossed-requires-4 c κs = search rules

e4 : (c : tie.After-crossed-4) → to_z w64 (of_z w64 c.crossed-4.result) ≡ x4 c.args.g
e4 c = let f = fits c.before.before.before.before.before.before.before.before.before.before.before.before.before.before.before.before.before.before.before.before in back w64 c.crossed-4.type_inv ∙ rw (to_z-of_z f.b, to_z-of_z f.ai, to_z-of_z f.bi, to_z-of_z f.a) at c.crossed-4.ensures

add-result : tie.Need-overflow_add-result
add-result c = rw (e1 c.before.before.before.before.before, e2 c) (two _ (fits c.before.before.before.before.before.before.before.before.before.before))

add-result-2 : tie.Need-overflow_add-result-2
add-result-2 c =
    let c2 = c.before.before.before.before.before in
    let f = fits c2.before.before.before.before.before.before.before.before.before.before in
    rw (e1 c2.before.before.before.before.before, e2 c2, to_z-of_z (two _ f), e3 c) (three _ f)

add-result-3 : tie.Need-overflow_add-result-3
add-result-3 c =
    let c3 = c.before.before.before.before.before in
    let c2 = c3.before.before.before.before.before in
    let f = fits c2.before.before.before.before.before.before.before.before.before.before in
    rw (e1 c2.before.before.before.before.before, e2 c2, to_z-of_z (two _ f), e3 c3, to_z-of_z (three _ f), e4 c) (four _ f)

returns : tie.Need-returns
returns c =
    let c3 = c.before.before.before.before.before in
    let c2 = c3.before.before.before.before.before in
    let s = c2.before.before.before.before.before.before.before.before.before.before in
    let f = fits s in
    rw (e1 c2.before.before.before.before.before, e2 c2, to_z-of_z (two _ f), e3 c3, to_z-of_z (three _ f), e4 c, to_z-of_z (four _ f)) (sum_is s.args.g)

pub root_spec : {M : Type 1} → statement M
root_spec =
    tie.close
    (tie.spec
    crossed-requires
    crossed-requires-2
    add-result
    crossed-requires-3
    add-result-2
    crossed-requires-4
    add-result-3
    returns)
