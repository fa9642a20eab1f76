use mathlib.Core.Path.{◌≡◌, sym, ◌∙◌, ap, ap₂, subst}
use Prim.Native.Nat.{◌^◌}
use native.Mathlib.Omega.{arith}
use lib.IntN.{pos}
use Rattle.ring.specs.RootTwo.{◌⊞◌, ◌⊠◌, conj}
use Rattle.ring.specs.RootTwo.Sized.{sized_more, products, product-size, conj_size, sum-size, room}
use Rattle.line_rows.specs.Row.{pair_at}
use Rattle.line_steps.specs.Narrow.{origin}
use Rattle.line_steps.specs.Sized.{Sized, whole, size_of_unit, sum_is}
use Rattle.line_steps.specs.Scaled.{back-turned, back-straight}
use Rattle.line_steps.proofs.pair_rows.back.Statement.{statement}
use Rattle.line_steps.proofs.pair_rows.back.Tie as tie

conjugate-requires : tie.Need-conjugate-requires
conjugate-requires c κs = sized_more size_of_unit (2 ^ 60) _ (omega arith) c.requires.1

pair-requires : tie.Need-pair-requires
pair-requires c κs = let s = c in let h = s.requires.2 in let x = s.requires.3 in let y = s.requires.4 in (omega arith, omega arith, omega arith)

unit_size : (c : tie.After-conjugate) → Sized size_of_unit c.conjugate.result
unit_size c = subst (Sized size_of_unit) (sym c.conjugate.ensures) (conj_size size_of_unit _ c.requires.1)

product-requires : tie.Need-product-z-requires
product-requires c κs = products _ _ size_of_unit (2 ^ 41) (unit_size c.before) c.pair.ensures.1 (omega arith)

scaled-size : (c : tie.After-product-z) → Sized (2 ^ 55) c.product-z.result
scaled-size c = subst (Sized (2 ^ 55)) (sym c.product-z.ensures) (product-size _ _ size_of_unit (2 ^ 41) (unit_size c.before.before) c.pair.ensures.1 (2 ^ 55) (omega arith))

combined-requires : tie.Need-combined-w-requires
combined-requires c κs =
    let s = c in
    room (pos 1) (pos 1) _ _ 1 (2 ^ 55) 1 whole (omega arith) (scaled-size c) (omega arith) s.requires.0 (omega arith)

-- the pair moved back, and its size
module _ (c : tie.After-combined-w) where
  abbrev start : tie.Start
  start = c.before.before.before.before.before.before

  moved : c.combined-w.result ≡ origin start.args.c.o start.args.c.u (pair_at start.args.c.half start.args.x start.args.y)
  moved =
      c.combined-w.ensures ∙ sum_is c.product-z.result start.args.c.o
      ∙ ap (λ t. t ⊞ start.args.c.o) (c.product-z.ensures ∙ ap₂ ◌⊠◌ c.conjugate.ensures c.pair.ensures.0)

  size : Sized (2 ^ 60) c.combined-w.result
  size = subst (Sized (2 ^ 60)) (sym (c.combined-w.ensures ∙ sum_is c.product-z.result start.args.c.o)) (sum-size (2 ^ 55) whole (2 ^ 60) _ _ (scaled-size c.before) start.requires.0 (omega arith))

conjugate-requires-2 : tie.Need-conjugate-requires-then-c
conjugate-requires-2 c κs = size c.before

returns : tie.Need-returns-then-c
returns c = let i = c in c.conjugate-then-c.ensures ∙ ap conj (moved i.before.before) ∙ back-turned _ _ i.if-c.true

returns-2 : tie.Need-returns
returns-2 c = moved c.before ∙ back-straight _ _ c.if-c.false

pub back_spec : {M : Type 1} → statement M
back_spec =
    tie.close
    (tie.spec
    conjugate-requires
    pair-requires
    product-requires
    combined-requires
    conjugate-requires-2
    returns
    returns-2)
