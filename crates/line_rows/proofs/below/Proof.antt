use mathlib.Core.Path.{◌≡◌, refl, ◌∙◌, ap}
use mathlib.Core.List.{[], ◌∷◌}
use Prim.Native.Nat.{◌^◌}
use native.Mathlib.Omega.{arith}
use borrow.Author.Rules.{rules}
use lib.IntN.{pos}
use mir.Syntax.{w64}
use mir.Val.{SFits}
use mir.Facts.{to_z-of_z}
use Rattle.integers.specs.lemmas.Ring.{poly, by_ring}
use Rattle.integers.specs.lemmas.Size.{size→fits}
use Rattle.ring.specs.declared.RootTwo.{RootTwo}
use Rattle.ring.specs.RootTwo.{◌⊟◌, ◌⊠◌, num, ring√}
use Rattle.ring.specs.RootTwo.Order.{nonneg}
use Rattle.ring.specs.RootTwo.Sized.{room}
use Rattle.line_rows.proofs.below.Statement.{statement}
use Rattle.line_rows.proofs.below.Tie as tie

m-fits : (s : tie.Start) → SFits w64 s.args.s.m
m-fits s = size→fits (omega (arith, s.requires.0.scale))

offset-requires : tie.Need-offset-requires
offset-requires c κs = rw (to_z-of_z (m-fits c.before.before)) (room (pos 1) _ _ _ 1 (2 ^ 60) (2 ^ 20) (2 ^ 41) (omega arith) c.requires.0.hi c.requires.0.scale c.requires.1 (omega arith))

is-nonneg-requires : tie.Need-is_nonneg-requires
is-nonneg-requires c κs = search rules

returns : tie.Need-returns
returns c = let d = c in let s = d.before.before in let a = s.args in c.is_nonneg.ensures ∙ ap nonneg (simp (to_z-of_z (m-fits s.before.before)) at d.offset.ensures ∙ once (num a.s.m ⊠ a.z) a.s.hi)
  where
    once : (x h : RootTwo) → num (pos 1) ⊠ h ⊟ x ≡ h ⊟ x
    once x h = by_ring ring√ (x ∷ h ∷ []) (search poly depth 30) refl

pub below_spec : {M : Type 1} → statement M
below_spec = tie.close (tie.spec offset-requires is-nonneg-requires returns)
