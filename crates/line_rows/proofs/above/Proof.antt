use mathlib.Core.Path.{◌≡◌, refl, ◌∙◌, ap}
use mathlib.Core.List.{[], ◌∷◌}
use Prim.Native.Nat.{◌^◌}
use native.Mathlib.Omega.{arith}
use borrow.Author.Rules.{rules}
use lib.IntN.{pos}
use mir.Syntax.{w64}
use mir.Val.{SFits}
use mir.Facts.{to_z-of_z}
use Rattle.integers.specs.lemmas.Ring.{poly, by_ring}
use Rattle.integers.specs.lemmas.Size.{size→fits}
use Rattle.ring.specs.declared.RootTwo.{RootTwo}
use Rattle.ring.specs.RootTwo.{◌⊟◌, ◌⊠◌, num, ring√}
use Rattle.ring.specs.RootTwo.Order.{nonneg}
use Rattle.ring.specs.RootTwo.Sized.{room}
use Rattle.line_rows.proofs.above.Statement.{statement}
use Rattle.line_rows.proofs.above.Tie as tie

m-fits : (s : tie.Start) → SFits w64 s.args.s.m
m-fits s = size→fits (omega (arith, s.requires.0.scale))

offset-requires : tie.Need-offset-requires
offset-requires c κs = rw (to_z-of_z (m-fits c.before.before)) (room _ (pos 1) _ _ (2 ^ 20) (2 ^ 41) 1 (2 ^ 60) c.requires.0.scale c.requires.1 (omega arith) c.requires.0.lo (omega arith))

is-nonneg-requires : tie.Need-is_nonneg-requires
is-nonneg-requires c κs = search rules

returns : tie.Need-returns
returns c = let d = c in let s = d.before.before in let a = s.args in c.is_nonneg.ensures ∙ ap nonneg (simp (to_z-of_z (m-fits s.before.before)) at d.offset.ensures ∙ once (num a.s.m ⊠ a.z) a.s.lo)
  where
    once : (x l : RootTwo) → x ⊟ num (pos 1) ⊠ l ≡ x ⊟ l
    once x l = by_ring ring√ (x ∷ l ∷ []) (search poly depth 30) refl

pub above_spec : {M : Type 1} → statement M
above_spec = tie.close (tie.spec offset-requires is-nonneg-requires returns)
