use mathlib.Core.Path.{sym, ◌∙◌, ap, ap₂}
use lib.IntN.{◌+ℤ◌, +ℤ_assoc}
use mir.Syntax.{w32, w64}
use mir.Facts.{to_z-of_z}
use borrow.Author.Rules.{rules}
use Rattle.integers.specs.Parity.{even}
use Rattle.integers.specs.lemmas.Size.{back}
use Rattle.operator.proofs.sums.is_even.Statement.{statement}
use Rattle.operator.proofs.sums.is_even.Tie as tie

sum-requires : tie.Need-sum-requires
sum-requires c κs = search rules

sum-requires-2 : tie.Need-sum-requires-2
sum-requires-2 c κs = search rules

sum-requires-3 : tie.Need-sum-requires-3
sum-requires-3 c κs = search rules

is-even-requires : tie.Need-is_even-requires
is-even-requires c κs = search rules

returns : tie.Need-returns
returns c =
    let s = c in
    let xy = c.sum in
    let zw = c.sum-2 in
    let xyzw = c.sum-3 in
    c.is_even.ensures ∙ ap even (back w64 xyzw.type_inv ∙ xyzw.ensures ∙ ap₂ ◌+ℤ◌ (back w32 xy.type_inv ∙ xy.ensures ∙ ap₂ ◌+ℤ◌ (to_z-of_z s.ranges.x) (to_z-of_z s.ranges.y)) (back w32 zw.type_inv ∙ zw.ensures ∙ ap₂ ◌+ℤ◌ (to_z-of_z s.ranges.z) (to_z-of_z s.ranges.w)) ∙ sym (+ℤ_assoc (◌+ℤ◌ s.args.x s.args.y) s.args.z s.args.w))

pub is_even_spec : {M : Type 1} → statement M
is_even_spec = tie.close (tie.spec sum-requires sum-requires-2 sum-requires-3 is-even-requires returns)
