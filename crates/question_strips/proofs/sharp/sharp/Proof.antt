use mathlib.Core.Path.{◌≡◌, sym, subst}
use Prim.Native.Nat.{◌^◌}
use native.Mathlib.Omega.{arith}
use lib.IntN.{pos}
use mir.Syntax.{w64}
use mir.Val.{to_z, of_z}
use borrow.Author.Rules.{rules}
use borrow.Author.Tests.{not-false}
use Rattle.integers.specs.lemmas.Size.{back}
use Rattle.ring.specs.declared.RootTwo.{RootTwo}
use Rattle.ring.specs.RootTwo.Sized.{Sized, room, products, product-size, conj_size}
use Rattle.question_strips.specs.Sharp.{Near, Either, sharp_reaches}
use Rattle.question_strips.proofs.sharp.sharp.Statement.{statement}
use Rattle.question_strips.proofs.sharp.sharp.Tie as tie

product-requires : tie.Need-product-f-requires
product-requires c κs = products _ _ (2 ^ 17) 200 c.requires.2.size c.requires.1.first (omega arith)

product-requires-2 : tie.Need-product-g-requires
product-requires-2 c κs = let s = c in products _ _ (2 ^ 17) 200 c.requires.2.size c.requires.1.second (omega arith)

-- e·u and e·v
module _ (c : tie.After-product-g) where
  abbrev s : tie.Start
  s = c.before.before

  f-size : Sized (2 ^ 27) (2 ^ 27) c.product-f.result
  f-size = subst (Sized (2 ^ 27) (2 ^ 27)) (sym c.product-f.ensures) (product-size _ _ (2 ^ 17) 200 s.requires.2.size s.requires.1.first (2 ^ 27) (omega arith))

  g-size : Sized (2 ^ 27) (2 ^ 27) c.product-g.result
  g-size = subst (Sized (2 ^ 27) (2 ^ 27)) (sym c.product-g.ensures) (product-size _ _ (2 ^ 17) 200 s.requires.2.size s.requires.1.second (2 ^ 27) (omega arith))

rounded-requires : tie.Need-rounded-x-requires
rounded-requires c κs = f-size c

rounded-requires-2 : tie.Need-rounded-y-requires
rounded-requires-2 c κs = g-size c.before

-- the whole direction near them
module _ (c : tie.After-rounded-y) where
  x-is : to_z w64 (of_z w64 c.rounded-x.result) ≡ c.rounded-x.result
  x-is = back w64 c.rounded-x.type_inv

  y-is : to_z w64 (of_z w64 c.rounded-y.result) ≡ c.rounded-y.result
  y-is = back w64 c.rounded-y.type_inv

is-near-requires : tie.Need-is_near-requires
is-near-requires c κs = (f-size c.before.before, rw (x-is c) c.rounded-x.ensures)

returns : tie.Need-returns-then-not-is_near
returns c = search rules

is-near-requires-2 : tie.Need-is_near-requires-2
is-near-requires-2 c κs = let r = c.before.before in (g-size c.before.before.before.before, rw (y-is c.before.before) c.rounded-y.ensures)

returns-2 : tie.Need-returns-then-not-is_near-2
returns-2 c = search rules

module _ (c : tie.Else-not-is_near-2) where
  abbrev r : tie.After-rounded-y
  r = c.before.before.before.before

  abbrev p : tie.After-product-g
  p = r.before.before

  first : Near p.product-f.result r.rounded-x.result
  first = rw (x-is r) at (c.is_near.ensures (c.if-not-is_near.false))

  second : Near p.product-g.result r.rounded-y.result
  second = rw (y-is r) at (c.is_near-2.ensures (c.if-not-is_near-2.false))

whole-requires : tie.Need-whole-requires
whole-requires c κs = ((s (p c)).requires.0, rw (x-is (r c)) (first c).size, rw (y-is (r c)) (second c).size)

beyond-requires : tie.Need-beyond-t-requires
beyond-requires c κs = (rw (back w64 c.whole.type_inv) c.whole.ensures.size, (s (p c.before)).requires.4.small)

conjugate-requires : tie.Need-conjugate-requires
conjugate-requires c κs = search rules

combined-requires : tie.Need-combined-requires
combined-requires c κs =
    let b = c in
    let i = s (p c.before.before.before) in
    rw (back w64 c.beyond-t.type_inv, c.conjugate.ensures)
    (room c.beyond-t.result (pos 0) _ i.args.e (2 ^ 32) (2 ^ 17) 0 (2 ^ 17) c.beyond-t.ensures.1 (conj_size (2 ^ 17) i.args.e i.requires.2.size) (omega arith) i.requires.2.size (omega arith))

lesser-requires : tie.Need-lesser-requires
lesser-requires c κs = search rules

returns-3 : tie.Need-returns
returns-3 c =
    let m = c in
    let j = m in
    let b = j in
    let w = b in
    let k = w.before in
    let q = p c.before.before.before.before.before in
    let i = s q in
    let x = (r c.before.before.before.before.before).before.rounded-x.result in
    let y = (r c.before.before.before.before.before).rounded-y.result in
    let o = rw (x-is (r c.before.before.before.before.before), y-is (r c.before.before.before.before.before)) at c.whole.ensures.over in
    let t = rw (back w64 c.whole.type_inv) at c.beyond-t.ensures.0 in
    let e = rw (back w64 c.beyond-t.type_inv, c.conjugate.ensures) at c.combined.ensures in
    sharp_reaches i.args.region i.args.n i.args.u i.args.v i.args.e q.before.product-f.result q.product-g.result i.args.d c.lesser.result x y c.whole.result c.beyond-t.result
    i.requires.4 i.requires.2.even q.before.product-f.ensures q.product-g.ensures (first c.before.before.before.before.before) (second c.before.before.before.before.before) o t i.requires.3
    (subst (λ (z : RootTwo). Either i.args.d z c.lesser.result) e c.lesser.ensures)

pub sharp_spec : {M : Type 1} → statement M
sharp_spec =
    tie.close
    (tie.spec
    product-requires
    product-requires-2
    rounded-requires
    rounded-requires-2
    is-near-requires
    returns
    is-near-requires-2
    returns-2
    whole-requires
    beyond-requires
    conjugate-requires
    combined-requires
    lesser-requires
    returns-3)
