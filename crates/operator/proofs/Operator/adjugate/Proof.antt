use mathlib.Core.Path.{◌≡◌, refl, ◌∙◌}
use Prim.Native.Nat.{◌≤◌}
use native.Mathlib.Omega.{arith}
use lib.IntN.{ℤ, nat_abs, ◌+ℤ◌, ◌-ℤ◌}
use mir.Syntax.{w16, w32}
use mir.Val.{SFits, to_z, of_z}
use mir.Facts.{to_z-of_z}
use Rattle.integers.specs.Parity.{half}
use Rattle.integers.specs.lemmas.Size.{back, size→fits}
use Rattle.operator.specs.Operator.{ext}
use Rattle.operator.specs.Accepted.{Small}
use Rattle.operator.specs.lemmas.Adjugate.{adjugate-small, computed, computed-is}
use Rattle.operator.specs.Bounded.{Fits16}
use borrow.Author.Rules.{rules}
use Rattle.operator.proofs.Operator.adjugate.Statement.{statement}
use Rattle.operator.proofs.Operator.adjugate.Tie as tie

fits : (c : tie.Start) → Fits16 c.args.self
fits c = search rules

-- what is computed is small
small : (c : tie.Start) → Small 200 (computed c.args.self)
small c = rw (computed-is c.args.self) at (adjugate-small 100 c.args.self c.requires)

a-fits : (c : tie.Start) → SFits w32 (computed c.args.self).a
a-fits c = size→fits (omega (arith, (small c).a))

a-is : (c : tie.After-half_sum) → let g = c.args.self in to_z w32 (of_z w32 c.half_sum.result) ≡ half (g.ci +ℤ g.ai +ℤ g.c +ℤ g.a)
a-is c = let f = fits c.before.before.before.before.before in back w32 c.half_sum.type_inv ∙ rw (to_z-of_z f.ci, to_z-of_z f.ai, to_z-of_z f.c, to_z-of_z f.a) at c.half_sum.ensures

c-is : (c : tie.After-half_difference) → let g = c.args.self in to_z w32 (of_z w32 c.half_difference.result) ≡ half (g.ci +ℤ g.ai -ℤ g.c -ℤ g.a)
c-is c = let f = fits c.before.before.before.before.before.before.before.before.before.before.before.before in back w32 c.half_difference.type_inv ∙ rw (to_z-of_z f.ci, to_z-of_z f.ai, to_z-of_z f.c, to_z-of_z f.a) at c.half_difference.ensures

ai-is : (c : tie.After-half_difference-2) → let g = c.args.self in to_z w32 (of_z w32 c.half_difference-2.result) ≡ half (g.ci +ℤ g.c -ℤ g.ai -ℤ g.a)
ai-is c = let f = fits c.before.before.before.before.before.before.before.before.before.before.before.before.before.before.before.before.before in back w32 c.half_difference-2.type_inv ∙ rw (to_z-of_z f.ci, to_z-of_z f.c, to_z-of_z f.ai, to_z-of_z f.a) at c.half_difference-2.ensures

ci-is : (c : tie.After-half_difference-3) → let g = c.args.self in to_z w32 (of_z w32 c.half_difference-3.result) ≡ half (g.ai +ℤ g.c -ℤ g.ci -ℤ g.a)
ci-is c = let f = fits c.before.before.before.before.before.before.before.before.before.before.before.before.before.before.before.before.before.before.before.before.before.before in back w32 c.half_difference-3.type_inv ∙ rw (to_z-of_z f.ai, to_z-of_z f.c, to_z-of_z f.ci, to_z-of_z f.a) at c.half_difference-3.ensures

half-sum-requires : tie.Need-half_sum-requires
half-sum-requires c κs = search rules

sub-t3 : tie.Need-overflow_sub-result
sub-t3 c = rw (a-is c) (a-fits c.before.before.before.before.before)

cast-t4 : tie.Need-overflow_cast-result
cast-t4 c = let s = c.before.before.before.before.before in rw (a-is c, to_z-of_z (a-fits s)) (size→fits (omega (arith, (small s).a)))

sub-t5 : tie.Need-overflow_sub-result-2
sub-t5 c = let s = c.before.before.before.before.before.before.before in rw (to_z-of_z (fits s).b) (size→fits (omega (arith, (small s).b)))

half-difference-requires : tie.Need-half_difference-requires
half-difference-requires c κs = search rules

cast-t7 : tie.Need-overflow_cast-result-2
cast-t7 c = rw (c-is c) (size→fits (omega (arith, (small c.before.before.before.before.before.before.before.before.before.before.before.before).c)))

half-difference-requires-2 : tie.Need-half_difference-requires-2
half-difference-requires-2 c κs = search rules

cast-t9 : tie.Need-overflow_cast-result-3
cast-t9 c = rw (ai-is c) (size→fits (omega (arith, (small c.before.before.before.before.before.before.before.before.before.before.before.before.before.before.before.before.before).ai)))

half-difference-requires-3 : tie.Need-half_difference-requires-3
half-difference-requires-3 c κs = search rules

cast-t11 : tie.Need-overflow_cast-result-4
cast-t11 c = rw (ci-is c) (size→fits (omega (arith, (small c.before.before.before.before.before.before.before.before.before.before.before.before.before.before.before.before.before.before.before.before.before.before).ci)))

sub-t12 : tie.Need-overflow_sub-result-3
sub-t12 c = let s = c.before.before.before.before.before.before.before.before.before.before.before.before.before.before.before.before.before.before.before.before.before.before.before.before in rw (to_z-of_z (fits s).di) (size→fits (omega (arith, (small s).di)))

returns : tie.Need-returns
returns c =
    let c3 = c.before.before.before in
    let c2 = c3.before.before.before.before.before in
    let c1 = c2.before.before.before.before.before in
    let c0 = c1.before.before.before.before.before.before.before in
    let s = c0.before.before.before.before.before in
    let f = fits s in
    let h = small s in
    let n : (z : ℤ) → nat_abs z ≤ 200 → to_z w16 (of_z w16 z) ≡ z = λ z k. to_z-of_z {w = w16} (size→fits (omega arith)) in
    rw (a-is c0, to_z-of_z (a-fits s), c-is c1, ai-is c2, ci-is c3, to_z-of_z f.b, to_z-of_z f.d, to_z-of_z f.bi, to_z-of_z f.di, computed-is s.args.self) (ext (n _ h.a) (n _ h.b) (n _ h.c) refl (n _ h.ai) refl (n _ h.ci) (n _ h.di))

pub adjugate_spec : {M : Type 1} → statement M
adjugate_spec =
    tie.close
    (tie.spec
    half-sum-requires
    sub-t3
    cast-t4
    sub-t5
    half-difference-requires
    cast-t7
    half-difference-requires-2
    cast-t9
    half-difference-requires-3
    cast-t11
    sub-t12
    returns)
