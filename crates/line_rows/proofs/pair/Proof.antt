use mathlib.Core.Path.{ap₂}
use mir.Syntax.{w64}
use borrow.Author.Rules.{rules}
use Rattle.integers.specs.lemmas.Size.{back}
use Rattle.line_rows.specs.Row.{at}
use Rattle.line_rows.proofs.pair.Statement.{statement}
use Rattle.line_rows.proofs.pair.Tie as tie

coordinate-requires : tie.Need-coordinate-requires
coordinate-requires c κs = search rules

coordinate-requires-2 : tie.Need-coordinate-requires-2
coordinate-requires-2 c κs = search rules

returns : tie.Need-returns
returns c =
    let x = c.coordinate in
    let y = c.coordinate-2 in
    rw (back w64 x.type_inv, back w64 y.type_inv) (ap₂ at x.ensures.0 y.ensures.0, record { p = x.ensures.1; q = y.ensures.1 })

pub pair_spec : {M : Type 1} → statement M
pair_spec = tie.close (tie.spec coordinate-requires coordinate-requires-2 returns)
