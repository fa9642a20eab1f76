use mathlib.Core.Path.{sym, ◌∙◌, ap, ap₂}
use lib.IntN.{◌+ℤ◌, +ℤ_assoc}
use mir.Syntax.{w32}
use mir.Facts.{to_z-of_z}
use borrow.Author.Rules.{rules}
use Rattle.integers.specs.Parity.{half}
use Rattle.integers.specs.lemmas.Size.{back}
use Rattle.operator.proofs.sums.half_sum.Statement.{statement}
use Rattle.operator.proofs.sums.half_sum.Tie as tie

sum-requires : tie.Need-sum-requires
sum-requires c κs = search rules

sum-requires-2 : tie.Need-sum-requires-2
sum-requires-2 c κs = search rules

half-sum-requires : tie.Need-half_sum-requires
half-sum-requires c κs = search rules

returns : tie.Need-returns
returns c =
    let s = c in
    let xy = c.sum in
    let zw = c.sum-2 in
    rw (back w32 c.half_sum.type_inv) (c.half_sum.ensures ∙ ap half (ap₂ ◌+ℤ◌ (back w32 xy.type_inv ∙ xy.ensures ∙ ap₂ ◌+ℤ◌ (to_z-of_z s.ranges.x) (to_z-of_z s.ranges.y)) (back w32 zw.type_inv ∙ zw.ensures ∙ ap₂ ◌+ℤ◌ (to_z-of_z s.ranges.z) (to_z-of_z s.ranges.w)) ∙ sym (+ℤ_assoc (◌+ℤ◌ s.args.x s.args.y) s.args.z s.args.w)))

pub half_sum_spec : {M : Type 1} → statement M
half_sum_spec = tie.close (tie.spec sum-requires sum-requires-2 half-sum-requires returns)
