use mathlib.Core.Path.{◌≡◌, refl, ◌∙◌}
use native.Mathlib.Omega.{arith}
use lib.IntN.{◌+ℤ◌, ◌*ℤ◌}
use mir.Syntax.{w64}
use mir.Val.{SFits, to_z, of_z}
use mir.Facts.{to_z-of_z}
use borrow.Author.Rules.{rules}
use Rattle.integers.specs.Parity.{half}
use Rattle.integers.specs.lemmas.Size.{back}
use Rattle.operator_matrices.specs.Matrix.{pairs}
use Rattle.operator_matrices.specs.Bounded.{pairs-fit}
use Rattle.operator_matrices.proofs.matrix.pairs.Statement.{statement}
use Rattle.operator_matrices.proofs.matrix.pairs.Tie as tie

module _ (c : tie.Start) where
  fits : let a = c.args in SFits w64 a.x.p × SFits w64 a.x.q × SFits w64 a.y.p × SFits w64 a.y.q × SFits w64 a.u.p × SFits w64 a.u.q × SFits w64 a.w.p × SFits w64 a.w.q
  fits = (search rules, search rules, search rules, search rules, search rules, search rules, search rules, search rules)

  sizes : let a = c.args in SFits w64 (half (a.x.q *ℤ a.y.q +ℤ a.u.q *ℤ a.w.q)) × SFits w64 (pairs a.x a.y a.u a.w).p × SFits w64 (pairs a.x a.y a.u a.w).q
  sizes = pairs-fit _ _ _ _ c.requires.0 c.requires.1 c.requires.2 c.requires.3

dot-requires : tie.Need-dot-requires
dot-requires c κs = search rules

dot-requires-2 : tie.Need-dot-requires-2
dot-requires-2 c κs = search rules

pp : (c : tie.After-dot) → let a = c.args in to_z w64 (of_z w64 c.dot.result) ≡ a.x.p *ℤ a.y.p +ℤ a.u.p *ℤ a.w.p
pp c = let h = fits c.before.before.before.before.before in back w64 c.dot.type_inv ∙ rw (to_z-of_z h.0, to_z-of_z h.2, to_z-of_z h.4, to_z-of_z h.6) at c.dot.ensures

qq : (c : tie.After-dot-2) → let a = c.args in to_z w64 (of_z w64 c.dot-2.result) ≡ a.x.q *ℤ a.y.q +ℤ a.u.q *ℤ a.w.q
qq c = let h = fits c.before.before.before.before.before.before.before.before.before.before in back w64 c.dot-2.type_inv ∙ rw (to_z-of_z h.1, to_z-of_z h.3, to_z-of_z h.5, to_z-of_z h.7) at c.dot-2.ensures

pq : (c : tie.After-dot-3) → let a = c.args in to_z w64 (of_z w64 c.dot-3.result) ≡ a.x.p *ℤ a.y.q +ℤ a.x.q *ℤ a.y.p
pq c = let h = fits c.before.before.before.before.before.before.before.before.before.before.before.before.before.before.before in back w64 c.dot-3.type_inv ∙ rw (to_z-of_z h.0, to_z-of_z h.3, to_z-of_z h.1, to_z-of_z h.2) at c.dot-3.ensures

qp : (c : tie.After-dot-4) → let a = c.args in to_z w64 (of_z w64 c.dot-4.result) ≡ a.u.p *ℤ a.w.q +ℤ a.u.q *ℤ a.w.p
qp c = let h = fits c.before.before.before.before.before.before.before.before.before.before.before.before.before.before.before.before.before.before.before.before in back w64 c.dot-4.type_inv ∙ rw (to_z-of_z h.4, to_z-of_z h.7, to_z-of_z h.5, to_z-of_z h.6) at c.dot-4.ensures

div-t7 : tie.Need-nonzero_div-result
div-t7 c = rw (qq c) (omega arith, (sizes c.before.before.before.before.before.before.before.before.before.before).0)

add-t8 : tie.Need-overflow_add-result
add-t8 c =
    let h = sizes c.before.before.before.before.before.before.before.before.before.before in
    let d = c.before.before.before.before.before in
    rw (pp c.before.before.before.before.before, qq c, to_z-of_z h.0) h.1

dot-requires-3 : tie.Need-dot-requires-3
dot-requires-3 c κs = search rules

dot-requires-4 : tie.Need-dot-requires-4
dot-requires-4 c κs = let s = c.before.before.before.before.before.before.before.before.before.before.before.before.before.before.before.before.before.before.before in let h = fits c.before.before.before.before.before.before.before.before.before.before.before.before.before.before.before.before.before.before.before in search rules

add-t11 : tie.Need-overflow_add-result-2
add-t11 c =
    let d = c.before.before.before.before.before in
    rw (pq c.before.before.before.before.before, qp c) (sizes c.before.before.before.before.before.before.before.before.before.before.before.before.before.before.before.before.before.before.before.before).2

returns : tie.Need-returns
returns c =
    let d3 = c.before.before.before.before.before in
    let d2 = d3.before.before.before.before.before in
    let d1 = d2.before.before.before.before.before in
    let h = sizes c.before.before.before.before.before.before.before.before.before.before.before.before.before.before.before.before.before.before.before.before in
    rw (pp c.before.before.before.before.before.before.before.before.before.before.before.before.before.before.before, qq c.before.before.before.before.before.before.before.before.before.before, to_z-of_z h.0, to_z-of_z h.1, pq c.before.before.before.before.before, qp c, to_z-of_z h.2) refl

pub pairs_spec : {M : Type 1} → statement M
pairs_spec =
    tie.close
    (tie.spec
    dot-requires
    dot-requires-2
    div-t7
    add-t8
    dot-requires-3
    dot-requires-4
    add-t11
    returns)
