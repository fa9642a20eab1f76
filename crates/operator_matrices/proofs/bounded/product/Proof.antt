use mathlib.Core.Path.{◌≡◌, refl, sym, ap, ap₂, ◌∙◌}
use mathlib.Core.Bool.{◌&&◌}
use mathlib.Core.List.{[], ◌∷◌}
use lib.ListN.{get_or}
use Rattle.integers.specs.lemmas.Booleans.{both_true}
use Rattle.operator_matrices.specs.Matrix.{Matrix, lies_within, product_of, product_within}
use Rattle.operator_matrices.specs.Within.{within-bounded}
use borrow.Author.Rules.{rules}
use Rattle.operator_matrices.proofs.bounded.product.Statement.{statement}
use Rattle.operator_matrices.proofs.bounded.product.Tie as tie

-- what the test of both says
tested : (c : tie.After-is_within-2) → let a = c.args in c.is_within.result && c.is_within-2.result ≡ lies_within a.m && lies_within a.n
tested c = ap₂ ◌&&◌ c.is_within.ensures c.is_within-2.ensures

is-within-requires : tie.Need-is_within-requires
is-within-requires c κs = search rules

is-within-requires-2 : tie.Need-is_within-requires-2
is-within-requires-2 c κs = search rules

product-requires : tie.Need-product-p-requires
product-requires c κs =
    let a = c.args in
    let h = both_true (lies_within a.m) (lies_within a.n) (sym (tested c.before) ∙ c.if-is_within.true) in
    (within-bounded a.m h.0, within-bounded a.n h.1)

array-copy-out-first : tie.Need-bounds-p-0
array-copy-out-first c = search rules

array-copy-out-second : tie.Need-bounds-p-1
array-copy-out-second c = search rules

returns : tie.Need-returns-then-is_within
unfolding product_within product_of
returns c =
    let p = c in
    let t = sym (tested c.before.before.before.before) ∙ c.if-is_within.true in
    let rows = ap (λ (m : Matrix). get_or m 0 [] ∷ get_or m 1 [] ∷ []) c.product-p.ensures in
    record { exact = sym t; rows = rw t rows }

returns-2 : tie.Need-returns
unfolding product_within
returns-2 c = let t = sym (tested c.before) ∙ c.if-is_within.false in record { exact = sym t; rows = rw t refl }

pub product_spec : {M : Type 1} → statement M
product_spec =
    tie.close
    (tie.spec
    is-within-requires
    is-within-requires-2
    product-requires
    array-copy-out-first
    array-copy-out-second
    returns
    returns-2)
