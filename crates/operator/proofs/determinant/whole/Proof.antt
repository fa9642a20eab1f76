use mathlib.Core.Path.{◌≡◌, refl, ◌∙◌}
use mathlib.Core.List.{[], ◌∷◌}
use native.Mathlib.Omega.{arith}
use lib.IntN.{◌+ℤ◌, ◌-ℤ◌, ◌*ℤ◌}
use mir.Syntax.{w64}
use mir.Val.{SFits, to_z, of_z}
use mir.Facts.{to_z-of_z}
use borrow.Author.Rules.{rules}
use Rattle.integers.specs.lemmas.RingZ.{by_ring, polyZ}
use Rattle.integers.specs.lemmas.Size.{back, size-+, size→fits}
use Rattle.operator.specs.declared.Operator.{Operator}
use Rattle.operator.specs.Operator.{det_whole}
use Rattle.operator.specs.Bounded.{Fits16, crossed-size}
use Rattle.operator.proofs.determinant.whole.Statement.{statement}
use Rattle.operator.proofs.determinant.whole.Tie as tie

fits : (c : tie.Start) → Fits16 c.args.g
fits c = search rules

crossed-requires : tie.Need-crossed-requires
crossed-requires c κs = search rules

crossed-requires-2 : tie.Need-crossed-requires-2
crossed-requires-2 c κs = search rules

first : (c : tie.After-crossed) → let g = c.args.g in to_z w64 (of_z w64 c.crossed.result) ≡ g.d *ℤ g.bi -ℤ g.di *ℤ g.b
first c = let f = fits c.before.before.before.before.before in back w64 c.crossed.type_inv ∙ rw (to_z-of_z f.d, to_z-of_z f.bi, to_z-of_z f.di, to_z-of_z f.b) at c.crossed.ensures

second : (c : tie.After-crossed-2) → let g = c.args.g in to_z w64 (of_z w64 c.crossed-2.result) ≡ g.c *ℤ g.ai -ℤ g.a *ℤ g.ci
second c = let f = fits c.before.before.before.before.before.before.before.before.before.before in back w64 c.crossed-2.type_inv ∙ rw (to_z-of_z f.c, to_z-of_z f.ai, to_z-of_z f.a, to_z-of_z f.ci) at c.crossed-2.ensures

-- their sum is in range, and the determinant's first number
fits_sum : (g : Operator) → Fits16 g → SFits w64 ((g.d *ℤ g.bi -ℤ g.di *ℤ g.b) +ℤ (g.c *ℤ g.ai -ℤ g.a *ℤ g.ci))
fits_sum g f = size→fits (omega (arith, size-+ (g.d *ℤ g.bi -ℤ g.di *ℤ g.b) (g.c *ℤ g.ai -ℤ g.a *ℤ g.ci), crossed-size f.d f.bi f.di f.b, crossed-size f.c f.ai f.a f.ci))

sum_is : (g : Operator) → (g.d *ℤ g.bi -ℤ g.di *ℤ g.b) +ℤ (g.c *ℤ g.ai -ℤ g.a *ℤ g.ci) ≡ det_whole g
unfolding det_whole
sum_is g = by_ring (g.a ∷ g.b ∷ g.c ∷ g.d ∷ g.ai ∷ g.bi ∷ g.ci ∷ g.di ∷ []) (search polyZ depth 60) refl

add-result : tie.Need-overflow_add-result
add-result c = rw (first c.before.before.before.before.before, second c) (fits_sum _ (fits c.before.before.before.before.before.before.before.before.before.before))

returns : tie.Need-returns
returns c = let s = c.before.before.before.before.before.before.before.before.before.before in rw (first c.before.before.before.before.before, second c, to_z-of_z (fits_sum _ (fits s))) (sum_is s.args.g)

pub whole_spec : {M : Type 1} → statement M
whole_spec = tie.close (tie.spec crossed-requires crossed-requires-2 add-result returns)
