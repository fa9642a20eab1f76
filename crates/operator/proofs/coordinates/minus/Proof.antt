use mathlib.Core.Path.{◌≡◌, refl, ◌∙◌}
use mathlib.Core.List.{[], ◌∷◌}
use lib.IntN.{ℤ, ◌+ℤ◌, ◌-ℤ◌}
use mir.Syntax.{w32, w64}
use mir.Val.{to_z, of_z}
use mir.Facts.{to_z-of_z}
use borrow.Author.Rules.{rules}
use Rattle.integers.specs.Parity.{half}
use Rattle.integers.specs.lemmas.RingZ.{by_ring, polyZ}
use Rattle.integers.specs.lemmas.Size.{back}
use Rattle.operator.specs.Bounded.{halves-bounded}
use Rattle.operator.proofs.coordinates.minus.Statement.{statement}
use Rattle.operator.proofs.coordinates.minus.Tie as tie

half-difference-requires : tie.Need-half_difference-requires
half-difference-requires c κs = search rules

first-is : (c : tie.After-half_difference) → let a = c.args in to_z w32 (of_z w32 c.half_difference.result) ≡ half (a.x +ℤ a.z -ℤ a.y -ℤ a.w)
first-is c = let f = c.ranges in back w32 c.half_difference.type_inv ∙ rw (to_z-of_z f.x, to_z-of_z f.y, to_z-of_z f.z, to_z-of_z f.w) at c.half_difference.ensures

half-difference-requires-2 : tie.Need-half_difference-requires-2
half-difference-requires-2 c κs = search rules

second_is : (c : tie.After-half_difference-2) → let a = c.args in to_z w32 (of_z w32 c.half_difference-2.result) ≡ half (a.x +ℤ a.w -ℤ a.y -ℤ a.z)
second_is c = let f = c.ranges in back w32 c.half_difference-2.type_inv ∙ rw (to_z-of_z f.x, to_z-of_z f.y, to_z-of_z f.z, to_z-of_z f.w) at c.half_difference-2.ensures

row-requires : tie.Need-row-requires
row-requires c κs =
    let f = c.ranges in
    rw (first-is c.before, second_is c) ((halves-bounded _ _ _ _ f.x f.z f.y f.w).1, (halves-bounded _ _ _ _ f.x f.w f.y f.z).1, c.requires)

-- x + z − y − w = x − y + z − w and x + w − y − z = x − y − z + w
swap : (x y z w : ℤ) → (x +ℤ z -ℤ y -ℤ w ≡ x -ℤ y +ℤ z -ℤ w) × (x +ℤ w -ℤ y -ℤ z ≡ x -ℤ y -ℤ z +ℤ w)
swap x y z w = let ρ = x ∷ y ∷ z ∷ w ∷ [] in (by_ring ρ (search polyZ depth 40) refl, by_ring ρ (search polyZ depth 40) refl)

returns : tie.Need-returns
returns c =
    let s = c in
    let f = s.ranges in
    let e = swap s.args.x s.args.y s.args.z s.args.w in
    back w64 c.row.type_inv ∙ rw (to_z-of_z f.p, to_z-of_z f.q, first-is c.before.before, second_is c.before, e.0, e.1) at c.row.ensures

pub minus_spec : {M : Type 1} → statement M
minus_spec = tie.close (tie.spec half-difference-requires half-difference-requires-2 row-requires returns)
