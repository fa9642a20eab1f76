use mathlib.Core.Path.{◌≡◌, ◌∙◌, ap}
use Prim.Native.Nat.{◌^◌, ◌≤◌}
use native.Mathlib.Omega.{arith}
use lib.IntN.{ℤ, nat_abs}
use mir.Syntax.{w32, w64}
use mir.Val.{SFits, to_z, of_z}
use mir.Facts.{to_z-of_z, sfits_widen}
use borrow.Author.Rules.{rules}
use Rattle.integers.specs.lemmas.Size.{fits→size}
use Rattle.ring.specs.declared.Point.{Point}
use Rattle.ring.specs.Point.{ext}
use Rattle.operator.specs.Operator.{image_of}
use Rattle.operator.proofs.Operator.image.Statement.{statement}
use Rattle.operator.proofs.Operator.image.Tie as tie

module _ (s : tie.Start) where
  abbrev v : Point
  v = s.args.v

  fits : SFits w32 v.a × SFits w32 v.b × SFits w32 v.c × SFits w32 v.d
  fits = (search rules, search rules, search rules, search rules)

widen : {z : ℤ} → SFits w32 z → SFits w64 (to_z w32 (of_z w32 z))
widen h = rw (to_z-of_z h) (sfits_widen tt h)

widened : {z : ℤ} → SFits w32 z → to_z w64 (of_z w64 (to_z w32 (of_z w32 z))) ≡ z
widened h = rw (to_z-of_z h) (to_z-of_z {w = w64} (sfits_widen tt h))

near : {z : ℤ} → SFits w32 z → nat_abs (to_z w64 (of_z w64 (to_z w32 (of_z w32 z)))) ≤ 2 ^ 40
near h = rw (widened h) (omega (arith, fits→size h))

cast-t3 : tie.Need-overflow_cast-v
cast-t3 c = widen (fits c.before.before).0

cast-t4 : tie.Need-overflow_cast-v-2
cast-t4 c = widen (fits c.before.before.before.before).1

cast-t5 : tie.Need-overflow_cast-v-3
cast-t5 c = widen (fits c.before.before.before.before.before.before).2

cast-t6 : tie.Need-overflow_cast-v-4
cast-t6 c = widen (fits c.before.before.before.before.before.before.before.before).3

image-wide-requires : tie.Need-image_wide-requires
image-wide-requires c κs = let f = fits c.before.before.before.before.before.before.before.before in record { a = near f.0; b = near f.1; c = near f.2; d = near f.3 }

returns : tie.Need-returns
returns c =
    let s = c.before.before.before.before.before.before.before.before.before in
    let f = fits s in
    c.image_wide.ensures ∙ ap (image_of s.args.self) (ext (widened f.0) (widened f.1) (widened f.2) (widened f.3))

pub image_spec : {M : Type 1} → statement M
image_spec = tie.close (tie.spec cast-t3 cast-t4 cast-t5 cast-t6 image-wide-requires returns)
