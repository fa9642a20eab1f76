use mathlib.Core.Path.{◌∙◌, ap₂}
use Rattle.operator_matrices.specs.Matrix.{product_of}
use Rattle.operator.specs.Bounded.{Fits16}
use Rattle.operator_matrices.specs.Bounded.{matrix-bounded}
use borrow.Author.Rules.{rules}
use Rattle.operator_matrices.proofs.product_of.Statement.{statement}
use Rattle.operator_matrices.proofs.product_of.Tie as tie

of-requires : tie.Need-of-requires
of-requires c κs = search rules

of-requires-2 : tie.Need-of-requires-2
of-requires-2 c κs = search rules

fits-g : (c : tie.Start) → Fits16 c.args.g
fits-g c = search rules

fits-h : (c : tie.Start) → Fits16 c.args.h
fits-h c = search rules

product-requires : tie.Need-product-requires
product-requires c κs = rw (c.of.ensures, c.of-2.ensures) (matrix-bounded _ (fits-g c.before.before), matrix-bounded _ (fits-h c.before.before))

returns : tie.Need-returns
returns c = c.product.ensures ∙ ap₂ product_of c.of.ensures c.of-2.ensures

pub product_of_spec : {M : Type 1} → statement M
product_of_spec = tie.close (tie.spec of-requires of-requires-2 product-requires returns)
