-- `signed` meets its contract. Assumes nothing.
use borrow.Author.Rules.{rules, sfits_of}
use borrow.Author.Tests.{le-leb, lt-leb, lt-ltb, le-ltb}
use Rattle.text_scan.specs.Number.{fits, fitted}
use mir.Syntax.{w64}
use mir.Facts.{to_z-of_z, to_z_pos}
use Rattle.text_scan.proofs.signed.Statement.{statement}
use Rattle.text_scan.proofs.signed.Tie as tie

negative-requires : tie.Need-negative-requires
negative-requires c κs = search rules

cast-t11 : tie.Need-overflow_cast-result
cast-t11 c = search rules

returns : tie.Need-returns-then-n-le9223372036854775808
unfolding fits fitted
returns c =
    rw (to_z-of_z (sfits_of c.negative.type_inv), c.negative.ensures, c.if-minus.true, le-leb _ _ c.if-n-le9223372036854775808.true)

returns-2 : tie.Need-returns-else-n-le9223372036854775808
unfolding fits fitted
returns-2 c = rw (c.if-minus.true, lt-leb _ _ c.if-n-le9223372036854775808.false)

returns-3 : tie.Need-returns-then-n-lt9223372036854775808
unfolding fits fitted
returns-3 c = rw (c.if-minus.false, to_z_pos w64 {n = c.args.n} c.if-n-lt9223372036854775808.true, lt-ltb _ _ c.if-n-lt9223372036854775808.true)

returns-4 : tie.Need-returns-else-n-lt9223372036854775808
unfolding fits fitted
returns-4 c = rw (c.if-minus.false, le-ltb _ _ c.if-n-lt9223372036854775808.false)

pub signed_spec : {M : Type 1} → statement M
signed_spec = tie.close (tie.spec negative-requires cast-t11 returns returns-2 returns-3 returns-4)
