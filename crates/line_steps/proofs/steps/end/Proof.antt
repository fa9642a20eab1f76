use mathlib.Core.Path.{◌≡◌, sym, ◌∙◌, ap, subst}
use Prim.Native.Nat.{◌^◌}
use native.Mathlib.Omega.{arith}
use lib.IntN.{pos, negsuc}
use mir.Facts.{to_z-of_z}
use Rattle.ring.specs.RootTwo.{◌⊞◌, ◌⊟◌, ◌⊠◌, num}
use Rattle.ring.specs.RootTwo.Sized.{room, products}
use Rattle.line_steps.specs.Sized.{Sized, size_of_unit, shifted, scaled, end-size, at_less, sum_is}
use Rattle.line_steps.proofs.steps.end.Statement.{statement}
use Rattle.line_steps.proofs.steps.end.Tie as tie

combined-requires : tie.Need-combined-d-requires
combined-requires c κs = rw (to_z-of_z c.ranges.k) (room (pos 1) (negsuc 0) _ _ 1 shifted 1 shifted (omega arith) (record { p = c.requires.1; q = omega arith }) (omega arith) c.requires.2 (omega arith))

-- k − x, and u times it
first : (c : tie.After-combined-d) → c.combined-d.result ≡ num c.args.k ⊟ c.args.x
first c = let s = c in rw (to_z-of_z s.ranges.k) at c.combined-d.ensures ∙ at_less s.args.k s.args.x

second : (c : tie.After-product-e) → c.product-e.result ≡ c.args.u ⊠ (num c.args.k ⊟ c.args.x)
second c = c.product-e.ensures ∙ ap (λ t. c.args.u ⊠ t) (first c.before)

product-requires : tie.Need-product-e-requires
product-requires c κs =
    let s = c in
    let (a, b, d) = end-size s.args.u s.args.k s.args.x s.args.y s.requires.0 s.requires.1 s.requires.2 s.requires.3 in
    products _ _ size_of_unit (2 ^ 26) s.requires.0 (subst (Sized (2 ^ 26)) (sym (first c)) a) (omega arith)

combined-requires-2 : tie.Need-combined-requires
combined-requires-2 c κs =
    let s = c in
    let (a, b, d) = end-size s.args.u s.args.k s.args.x s.args.y s.requires.0 s.requires.1 s.requires.2 s.requires.3 in
    room (pos 1) (pos 1) _ _ 1 (2 ^ 40) 1 scaled (omega arith) (subst (Sized (2 ^ 40)) (sym (second c)) b) (omega arith) s.requires.3 (omega arith)

returns : tie.Need-returns
returns c = let s = c in c.combined.ensures ∙ sum_is c.product-e.result s.args.y ∙ ap (λ t. t ⊞ s.args.y) (second c.before)

pub end_spec : {M : Type 1} → statement M
end_spec = tie.close (tie.spec combined-requires product-requires combined-requires-2 returns)
