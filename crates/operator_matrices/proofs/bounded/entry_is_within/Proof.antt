use mathlib.Core.Path.{◌∙◌, ap, ap₂}
use mathlib.Core.Bool.{◌&&◌}
use Prim.Native.Nat.{ℕ, ◌^◌}
use lib.Dec.{leb}
use lib.IntN.{nat_abs}
use mir.Syntax.{w64}
use mir.Val.{SFits}
use mir.Facts.{to_z-of_z}
use borrow.Author.Rules.{rules}
use Rattle.operator_matrices.proofs.bounded.entry_is_within.Statement.{statement}
use Rattle.operator_matrices.proofs.bounded.entry_is_within.Tie as tie

abs-requires : tie.Need-abs-requires
abs-requires c κs = search rules

abs-requires-2 : tie.Need-abs-requires-2
abs-requires-2 c κs = search rules

returns : tie.Need-returns
returns c =
    let s = c in
    let p : SFits w64 c.args.e.p = search rules in
    let q : SFits w64 c.args.e.q = search rules in
    ap₂ (λ (m n : ℕ). leb m (2 ^ 30) && leb n (2 ^ 30)) (c.abs.ensures ∙ ap nat_abs (to_z-of_z p)) (c.abs-2.ensures ∙ ap nat_abs (to_z-of_z q))

pub entry_is_within_spec : {M : Type 1} → statement M
entry_is_within_spec = tie.close (tie.spec abs-requires abs-requires-2 returns)
