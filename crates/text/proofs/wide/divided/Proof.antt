-- `divided` meets its contract. Assumes nothing.
use mir.Syntax.{w64}
use mir.Val.{Fits}
use borrow.Author.Rules.{rules}
use Rattle.text.proofs.Words.{tenth, last, second_fits}
use Rattle.text.proofs.wide.divided.Statement.{statement}
use Rattle.text.proofs.wide.divided.Tie as tie

mul-upper : tie.Need-overflow_mul-upper
mul-upper c = search rules

add-upper : tie.Need-overflow_add-upper
add-upper c =
    let h : Fits w64 c.args.n.lo = search rules in
    record { fits = second_fits c.args.n.hi c.args.n.lo h.fits }

mul-lower : tie.Need-overflow_mul-lower
mul-lower c = search rules

add-lower : tie.Need-overflow_add-lower
add-lower c = search rules

mul-t7 : tie.Need-overflow_mul-quotient
mul-t7 c = search rules

add-t9 : tie.Need-overflow_add-quotient
add-t9 c = search rules

cast-t10 : tie.Need-overflow_cast-result
cast-t10 c = search rules

returns : tie.Need-returns
returns c = let n = c.args.n in (tenth n.hi n.lo, last n.hi n.lo)

pub divided_spec : {M : Type 1} → statement M
divided_spec =
    tie.close (tie.spec mul-upper add-upper mul-lower add-lower mul-t7 add-t9 cast-t10 returns)
