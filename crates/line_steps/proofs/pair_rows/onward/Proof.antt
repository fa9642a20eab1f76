use Rattle.line_steps.proofs.pair_rows.onward.Statement.{statement}
use Rattle.line_steps.proofs.pair_rows.onward.Tie as tie

start-requires : tie.Need-start-q-requires
start-requires c κs = c.requires

walk-requires : tie.Need-walk-requires
walk-requires c κs = (c.requires.0, c.requires.1, c.start-q.ensures)

returns : tie.Need-returns
returns c = c.walk.ensures

pub onward_spec : {M : Type 1} → statement M
onward_spec = tie.close (tie.spec start-requires walk-requires returns)
