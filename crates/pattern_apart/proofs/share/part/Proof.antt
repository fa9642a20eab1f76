use native.Mathlib.Omega.{arith}
use mir.Syntax.{w16, w64}
use mir.Val.{SFits}
use mir.Facts.{to_z-of_z}
use borrow.Author.Rules.{rules}
use Rattle.integers.specs.lemmas.Size.{size→fits, back}
use Rattle.pattern_apart.proofs.share.part.Statement.{statement}
use Rattle.pattern_apart.proofs.share.part.Tie as tie

abs-requires : tie.Need-abs-requires
abs-requires c κs = search rules

div-t6 : tie.Need-nonzero_div-z
div-t6 c = search rules

number-requires : tie.Need-number-requires
number-requires c κs = search rules

fits : (c : tie.After-number) → SFits w16 c.number.result
fits c = size→fits (omega (arith, c.number.ensures))

cast-result : tie.Need-overflow_cast-result
cast-result c = rw (back w64 c.number.type_inv) (fits c)

returns : tie.Need-returns
returns c = rw (back w64 c.number.type_inv, to_z-of_z (fits c)) c.number.ensures

pub part_spec : {M : Type 1} → statement M
part_spec = tie.close (tie.spec abs-requires div-t6 number-requires cast-result returns)
