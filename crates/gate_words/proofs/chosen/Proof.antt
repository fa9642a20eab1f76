use mathlib.Core.Path.{◌≡◌}
use mathlib.Core.Bool.{true, false}
use borrow.Author.Rules.{rules}
use Rattle.gate_words.proofs.chosen.Statement.{statement}
use Rattle.gate_words.proofs.chosen.Tie as tie

front-requires : tie.Need-front-requires
front-requires c κs = search rules

returns : tie.Need-returns-then-other
returns c =
    let e : c.args.p.second ≡ true = c.if-other.true in
    rw e c.front.ensures

front-requires-2 : tie.Need-front-requires-2
front-requires-2 c κs = search rules

returns-2 : tie.Need-returns
returns-2 c =
    let e : c.args.p.second ≡ false = c.if-other.false in
    rw e c.front-2.ensures

pub chosen_spec : {M : Type 1} → statement M
chosen_spec = tie.close (tie.spec front-requires returns front-requires-2 returns-2)
