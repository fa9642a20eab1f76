use mathlib.Core.Path.{sym, ◌∙◌}
use native.Mathlib.Omega.{arith}
use lib.IntN.{◌*ℤ◌}
use mir.Syntax.{w64}
use mir.Val.{SFits}
use mir.Facts.{to_z-of_z}
use borrow.Author.Rules.{rules}
use Rattle.integers.specs.lemmas.Size.{size→fits, back}
use Rattle.ring.specs.declared.RootTwo.{RootTwo}
use Rattle.ring.specs.RootTwo.{ext, product-parts}
use Rattle.ring_surds.proofs.product.Statement.{statement}
use Rattle.ring_surds.proofs.product.Tie as tie

-- the parts as 64 bits
record Known (x y : RootTwo) : Type 0 where
  pub xp : SFits w64 x.p
  pub xq : SFits w64 x.q
  pub yp : SFits w64 y.p
  pub yq : SFits w64 y.q
  pub roots : SFits w64 (x.q *ℤ y.q)

known : (c : tie.Start) → Known c.args.x c.args.y
known c = record { xp = search rules; xq = search rules; yp = search rules; yq = search rules; roots = size→fits (omega (arith, c.requires.roots)) }

mul-dot : tie.Need-overflow_mul-x
mul-dot c = let k = known c.before.before.before.before in simp (to_z-of_z k.xq, to_z-of_z k.yq) k.roots

dot-requires : tie.Need-dot-requires
dot-requires c κs =
    let s = c.before.before.before.before.before.before in
    let k = known s in
    simp (to_z-of_z k.xp, to_z-of_z k.xq, to_z-of_z k.yp, to_z-of_z k.yq, to_z-of_z k.roots) (omega (arith, s.requires.p))

dot-requires-2 : tie.Need-dot-requires-2
dot-requires-2 c κs =
    let s = c.before.before.before.before.before.before.before.before.before.before.before in
    let k = known s in
    simp (to_z-of_z k.xp, to_z-of_z k.xq, to_z-of_z k.yp, to_z-of_z k.yq) (omega (arith, s.requires.q))

returns : tie.Need-returns
returns c =
    let d = c in
    let s = d.before.before.before.before.before.before.before in
    let k = known s.before.before.before.before.before in
    let e = simp (to_z-of_z k.xp, to_z-of_z k.xq, to_z-of_z k.yp, to_z-of_z k.yq, to_z-of_z k.roots) at d.dot.ensures in
    let f = simp (to_z-of_z k.xp, to_z-of_z k.xq, to_z-of_z k.yp, to_z-of_z k.yq) at c.dot-2.ensures in
    ext (back w64 d.dot.type_inv ∙ e) (back w64 c.dot-2.type_inv ∙ f) ∙ sym (product-parts s.args.x s.args.y)

pub product_spec : {M : Type 1} → statement M
product_spec = tie.close (tie.spec mul-dot dot-requires dot-requires-2 returns)
