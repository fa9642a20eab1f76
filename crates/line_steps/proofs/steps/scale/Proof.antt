use native.Mathlib.Omega.{arith}
use mir.Syntax.{w64}
use mir.Val.{SFits}
use mir.Facts.{to_z-of_z}
use Rattle.integers.specs.lemmas.Size.{size→fits}
use Rattle.ring.specs.RootTwo.Sized.{products}
use Rattle.line_rows.specs.Row.{band_ext}
use Rattle.line_steps.specs.Sized.{size_of_unit, shifted}
use Rattle.line_steps.proofs.steps.scale.Statement.{statement}
use Rattle.line_steps.proofs.steps.scale.Tie as tie

product-requires : tie.Need-product-requires
product-requires c κs = products _ _ size_of_unit shifted c.requires.1 c.requires.0.lo (omega arith)

product-requires-2 : tie.Need-product-requires-2
product-requires-2 c κs = let s = c in products _ _ size_of_unit shifted s.requires.1 s.requires.0.hi (omega arith)

returns : tie.Need-returns
returns c =
    let s = c in
    let m : SFits w64 s.args.s.m = size→fits (omega (arith, s.requires.0.scale)) in
    band_ext (to_z-of_z m) c.product.ensures c.product-2.ensures

pub scale_spec : {M : Type 1} → statement M
scale_spec = tie.close (tie.spec product-requires product-requires-2 returns)
