use Prim.Native.Nat.{◌^◌}
use native.Mathlib.Omega.{arith}
use mir.Facts.{to_z-of_z}
use Rattle.integers.specs.lemmas.Size.{size→fits}
use mir.Syntax.{w64}
use mir.Val.{SFits}
use Rattle.ring.specs.RootTwo.Sized.{products}
use Rattle.line_rows.specs.Row.{band_ext}
use Rattle.question_strips.specs.Strips.{end_size}
use Rattle.question_strips.proofs.units.times.Statement.{statement}
use Rattle.question_strips.proofs.units.times.Tie as tie

product-requires : tie.Need-product-requires
product-requires c κs = products _ _ (2 ^ 17) end_size c.requires.1.size c.requires.0.lo (omega arith)

product-requires-2 : tie.Need-product-requires-2
product-requires-2 c κs = let s = c in products _ _ (2 ^ 17) end_size c.requires.1.size c.requires.0.hi (omega arith)

returns : tie.Need-returns
returns c =
    let s = c in
    let m : SFits w64 c.args.s.m = size→fits (omega (arith, c.requires.0.scale)) in
    band_ext (to_z-of_z m) c.product.ensures c.product-2.ensures

pub times_spec : {M : Type 1} → statement M
times_spec = tie.close (tie.spec product-requires product-requires-2 returns)
