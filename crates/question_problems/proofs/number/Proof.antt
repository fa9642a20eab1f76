use mathlib.Core.Path.{sym, ◌∙◌, ap, subst}
use Prim.Native.Nat.{◌^◌}
use native.Mathlib.Omega.{arith}
use Rattle.ring.specs.RootTwo.{◌⊠◌}
use Rattle.ring.specs.RootTwo.Sized.{Sized, products, product-size}
use Rattle.question_problems.proofs.number.Statement.{statement}
use Rattle.question_problems.proofs.number.Tie as tie

pair-requires : tie.Need-pair-requires
pair-requires c κs = (omega arith, omega arith, omega arith)

product-requires : tie.Need-product-requires
product-requires c κs = let s = c in products c.args.l.back _ (2 ^ 17) (2 ^ 41) c.requires.0.back c.pair.ensures.1 (omega arith)

returns : tie.Need-returns
returns c =
    let d = c in
    let s = d in
    let l = c.args.l in
    let e = c.product.ensures in
    (e ∙ ap (λ x. l.back ⊠ x) c.pair.ensures.0, subst (Sized (2 ^ 60) (2 ^ 60)) (sym e) (product-size l.back _ (2 ^ 17) (2 ^ 41) c.requires.0.back c.pair.ensures.1 (2 ^ 60) (omega arith)))

pub number_spec : {M : Type 1} → statement M
number_spec = tie.close (tie.spec pair-requires product-requires returns)
