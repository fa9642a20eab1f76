use mathlib.Core.Path.{◌≡◌, ◌∙◌, ap, ap₂}
use mathlib.Core.Bool.{◌&&◌, ◌||◌}
use Prim.Native.Nat.{◌^◌, ◌<◌}
use native.Mathlib.Omega.{arith}
use lib.Dec.{eqb}
use lib.IntN.{ℤ, pos, negsuc}
use lib.Signed.{mag}
use mir.Syntax.{w64}
use mir.Val.{SFits, hbits, of_z}
use Rattle.integers.specs.lemmas.Size.{size→fits}
use Rattle.operator.specs.Operator.{equal_z, special}
use Rattle.operator.specs.Accepted.{equal-bits}
use borrow.Author.Rules.{rules}
use Rattle.operator.proofs.Operator.is_special.Statement.{statement}
use Rattle.operator.proofs.Operator.is_special.Tie as tie

whole-requires : tie.Need-whole-w-requires
whole-requires c κs = search rules

root-requires : tie.Need-root-requires
root-requires c κs = search rules

-- a comparison of machine numbers is one of the numbers
is : {z d : ℤ} (y : ℤ) → mag z < 2 ^ hbits w64 → z ≡ d → SFits w64 y → eqb (of_z w64 z) (of_z w64 y) ≡ equal_z d y
is {z} y h e f = equal-bits w64 z y (record { sfits = h }) f ∙ ap (λ x. equal_z x y) e

returns : tie.Need-returns
unfolding special
returns c =
    let w = c.whole-w in
    let r = c.root in
    ap₂ ◌&&◌ (ap₂ ◌||◌ (is (pos 1) w.type_inv w.ensures (size→fits (omega arith))) (is (negsuc 0) w.type_inv w.ensures (size→fits (omega arith)))) (is (pos 0) r.type_inv r.ensures (size→fits (omega arith)))

pub is_special_spec : {M : Type 1} → statement M
is_special_spec = tie.close (tie.spec whole-requires root-requires returns)
