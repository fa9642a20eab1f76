use native.Mathlib.Omega.{arith}
use borrow.Author.Rules.{rules}
use Rattle.question_problems.specs.Rows.{top, near}
use Rattle.question_problems.proofs.start.Statement.{statement}
use Rattle.question_problems.proofs.start.Tie as tie

least-requires : tie.Need-least-requires
least-requires c κs = let p = c.requires in (near _ _ c.args.t top p.0.first p.0.second p.1 (omega arith), omega arith)

returns : tie.Need-returns
returns c = search rules

pub start_spec : {M : Type 1} → statement M
start_spec = tie.close (tie.spec least-requires returns)
