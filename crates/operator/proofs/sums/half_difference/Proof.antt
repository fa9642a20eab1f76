use mathlib.Core.Path.{◌≡◌, refl, ◌∙◌, ap, ap₂}
use mathlib.Core.List.{[], ◌∷◌}
use lib.IntN.{ℤ, ◌+ℤ◌, ◌-ℤ◌}
use mir.Syntax.{w32}
use mir.Facts.{to_z-of_z}
use borrow.Author.Rules.{rules}
use Rattle.integers.specs.Parity.{half}
use Rattle.integers.specs.lemmas.RingZ.{by_ring, polyZ}
use Rattle.integers.specs.lemmas.Size.{back}
use Rattle.operator.proofs.sums.half_difference.Statement.{statement}
use Rattle.operator.proofs.sums.half_difference.Tie as tie

sum-requires : tie.Need-sum-requires
sum-requires c κs = search rules

sum-requires-2 : tie.Need-sum-requires-2
sum-requires-2 c κs = search rules

half-difference-requires : tie.Need-half_difference-requires
half-difference-requires c κs = search rules

apart : (x y z w : ℤ) → (x +ℤ y) -ℤ (z +ℤ w) ≡ x +ℤ y -ℤ z -ℤ w
apart x y z w = by_ring (x ∷ y ∷ z ∷ w ∷ []) (search polyZ depth 40) refl

returns : tie.Need-returns
returns c =
    let s = c in
    let xy = c.sum in
    let zw = c.sum-2 in
    rw (back w32 c.half_difference.type_inv) (c.half_difference.ensures ∙ ap half (ap₂ ◌-ℤ◌ (back w32 xy.type_inv ∙ xy.ensures ∙ ap₂ ◌+ℤ◌ (to_z-of_z s.ranges.x) (to_z-of_z s.ranges.y)) (back w32 zw.type_inv ∙ zw.ensures ∙ ap₂ ◌+ℤ◌ (to_z-of_z s.ranges.z) (to_z-of_z s.ranges.w)) ∙ apart s.args.x s.args.y s.args.z s.args.w))

pub half_difference_spec : {M : Type 1} → statement M
half_difference_spec = tie.close (tie.spec sum-requires sum-requires-2 half-difference-requires returns)
