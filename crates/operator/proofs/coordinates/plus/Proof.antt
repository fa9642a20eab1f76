use mathlib.Core.Path.{◌≡◌, ◌∙◌}
use lib.IntN.{◌+ℤ◌, ◌-ℤ◌}
use mir.Syntax.{w32, w64}
use mir.Val.{to_z, of_z}
use mir.Facts.{to_z-of_z}
use borrow.Author.Rules.{rules}
use Rattle.integers.specs.Parity.{half}
use Rattle.integers.specs.lemmas.Size.{back}
use Rattle.operator.specs.Bounded.{halves-bounded}
use Rattle.operator.proofs.coordinates.plus.Statement.{statement}
use Rattle.operator.proofs.coordinates.plus.Tie as tie

half-sum-requires : tie.Need-half_sum-requires
half-sum-requires c κs = search rules

sum_is : (c : tie.After-half_sum) → let a = c.args in to_z w32 (of_z w32 c.half_sum.result) ≡ half (a.x +ℤ a.y +ℤ a.z +ℤ a.w)
sum_is c = let f = c.ranges in back w32 c.half_sum.type_inv ∙ rw (to_z-of_z f.x, to_z-of_z f.y, to_z-of_z f.z, to_z-of_z f.w) at c.half_sum.ensures

half-difference-requires : tie.Need-half_difference-requires
half-difference-requires c κs = search rules

difference-is : (c : tie.After-half_difference) → let a = c.args in to_z w32 (of_z w32 c.half_difference.result) ≡ half (a.x +ℤ a.y -ℤ a.z -ℤ a.w)
difference-is c = let f = c.ranges in back w32 c.half_difference.type_inv ∙ rw (to_z-of_z f.x, to_z-of_z f.y, to_z-of_z f.z, to_z-of_z f.w) at c.half_difference.ensures

row-requires : tie.Need-row-requires
row-requires c κs = let f = c.ranges in rw (sum_is c.before, difference-is c) (let h = halves-bounded _ _ _ _ f.x f.y f.z f.w in (h.0, h.1, c.requires))

returns : tie.Need-returns
returns c =
    let f = c.ranges in
    back w64 c.row.type_inv ∙ rw (to_z-of_z f.p, to_z-of_z f.q, sum_is c.before.before, difference-is c.before) at c.row.ensures

pub plus_spec : {M : Type 1} → statement M
plus_spec = tie.close (tie.spec half-sum-requires half-difference-requires row-requires returns)
