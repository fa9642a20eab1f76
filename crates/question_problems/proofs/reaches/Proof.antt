use borrow.Author.Rules.{rules}
use Rattle.question_problems.specs.Rows.{near}
use Rattle.question_problems.proofs.reaches.Statement.{statement}
use Rattle.question_problems.proofs.reaches.Tie as tie

upper-requires : tie.Need-upper-requires
upper-requires c κs = let p = c.requires in near _ _ c.args.t c.args.q p.0.first p.0.second p.1 p.2

returns : tie.Need-returns
returns c = search rules

pub reaches_spec : {M : Type 1} → statement M
reaches_spec = tie.close (tie.spec upper-requires returns)
