use mathlib.Core.Path.{sym, ◌∙◌}
use native.Mathlib.Omega.{arith}
use borrow.Author.Rules.{rules}
use Rattle.line_steps.proofs.pair_rows.least.Statement.{statement}
use Rattle.line_steps.proofs.pair_rows.least.Tie as tie

lower-requires : tie.Need-lower-requires
lower-requires c κs =
    let n = c.requires.0 in
    record { first = n.first; second = n.second; middle = n.middle; row = n.row; column = omega arith }

returns : tie.Need-returns-then-lower
returns c = record { from = omega arith; within = omega arith; before = λ t k l. absurd (omega arith); found = λ k. sym c.lower.ensures ∙ c.if-lower.true }

least-requires : tie.Need-least-requires
least-requires c κs = search rules

returns-2 : tie.Need-returns
returns-2 c = search rules

pub least_spec : {M : Type 1} → statement M
least_spec = tie.close (tie.spec lower-requires returns least-requires returns-2)
