use mathlib.Core.Path.{◌≡◌, sym, ◌∙◌, ap, subst, subst₂}
use Prim.Native.Nat.{◌*◌, ◌^◌}
use native.Mathlib.Omega.{arith}
use lib.IntN.{pos}
use mir.Syntax.{w64}
use mir.Val.{to_z}
use mir.Facts.{to_z_pos}
use borrow.Author.Rules.{rules}
use Rattle.ring.specs.declared.RootTwo.{RootTwo}
use Rattle.ring.specs.RootTwo.{◌⊠◌, neg}
use Rattle.ring.specs.RootTwo.Power.{√2^}
use Rattle.ring.specs.RootTwo.Sized.{Sized, Products, products, neg_size, sized_more, √2^-size}
use Rattle.line_rows.specs.Row.{band_ext}
use Rattle.region.specs.Over.{scale, scale-limits}
use Rattle.question_strips.specs.Reach.{reach_size, Reaches}
use Rattle.question_strips.specs.Strips.{StripOf, power_size, strip_of_lem}
use Rattle.question_strips.proofs.strip.Statement.{statement}
use Rattle.question_strips.proofs.strip.Tie as tie

power-requires : tie.Need-power-w-requires
power-requires c κs = search rules

over-requires : tie.Need-over-h-requires
over-requires c κs = let p = c.requires in (p.0, p.2)

opposite-requires : tie.Need-opposite-requires
opposite-requires c κs = sized_more 200 _ _ (omega arith) c.requires.2.first

opposite-requires-2 : tie.Need-opposite-requires-2
opposite-requires-2 c κs = sized_more 200 _ _ (omega arith) c.requires.2.second

over-requires-2 : tie.Need-over-l-requires
over-requires-2 c κs =
    let s = c in (
      c.requires.0,
      record {
        first = subst (Sized 200 200) (sym c.opposite.ensures) (neg_size 200 c.args.u c.requires.2.first);
        second = subst (Sized 200 200) (sym c.opposite-2.ensures) (neg_size 200 c.args.v c.requires.2.second);
      },
    )

scale-requires : tie.Need-scale-requires
scale-requires c κs = search rules

cast-t11 : tie.Need-overflow_cast-result
cast-t11 c = search rules

-- a reach times √2^k
module _ (s : tie.Start) (h w : RootTwo) (e : w ≡ √2^ s.args.k) (z : Sized reach_size reach_size h) where
  fit : Products h w
  fit = subst (Products h) (sym e) (products h (√2^ s.args.k) reach_size 1024 z (√2^-size s.args.k 10 (omega (arith, s.requires.1))) (omega arith))

  small : Sized (2 ^ 60) (2 ^ 60) (h ⊠ w)
  small = subst (λ w. Sized (2 ^ 60) (2 ^ 60) (h ⊠ w)) (sym e) (sized_more (reach_size * 1024) (2 ^ 60) _ (omega arith) (power_size s.args.k h reach_size s.requires.1 z))

product-requires : tie.Need-product-requires
product-requires c κs =
    let o = c in
    fit o.before.before.before.before.before.before c.over-l.result c.power-w.result c.power-w.ensures c.over-l.ensures.size

opposite-requires-3 : tie.Need-opposite-requires-3
opposite-requires-3 c κs =
    let o = c in
    subst (Sized (2 ^ 60) (2 ^ 60)) (sym c.product.ensures) (small o.before.before.before.before.before.before.before c.over-l.result c.power-w.result c.power-w.ensures c.over-l.ensures.size)

product-requires-2 : tie.Need-product-requires-2
product-requires-2 c κs =
    let o = c in
    fit o.before.before.before.before.before.before.before.before c.over-h.result c.power-w.result c.power-w.ensures c.over-h.ensures.size

returns : tie.Need-returns
returns c =
    let o = c in
    let s = o in
    let r = c.args.region in
    let k = c.args.k in
    let n = scale-limits r c.requires.0 in
    let w = c.power-w.ensures in
    let h = c.over-h.result in
    let d = c in
    let l = c.over-l.result in
    let m : to_z w64 c.scale.result ≡ pos (scale r) = ap (to_z w64) c.scale.ensures ∙ to_z_pos w64 (omega arith) in
    let b = subst₂ (λ u v. Reaches r u v l) c.opposite.ensures c.opposite-2.ensures c.over-l.ensures in
    subst (StripOf r k c.args.u c.args.v)
    (sym (band_ext m (c.opposite-3.ensures ∙ ap neg (c.product.ensures ∙ ap (λ t. l ⊠ t) w)) (c.product-2.ensures ∙ ap (λ t. h ⊠ t) w)))
    (strip_of_lem r k c.args.u c.args.v h l n c.requires.1 c.over-h.ensures b)

pub strip_spec : {M : Type 1} → statement M
strip_spec =
    tie.close
    (tie.spec
    power-requires
    over-requires
    opposite-requires
    opposite-requires-2
    over-requires-2
    scale-requires
    cast-t11
    product-requires
    opposite-requires-3
    product-requires-2
    returns)
