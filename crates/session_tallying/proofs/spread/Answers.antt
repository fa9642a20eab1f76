-- `spread` meets its contract. Assumes nothing.
use Rattle.std.proofs.Common.{◌∙◌}
use Rattle.session_tallying.specs.lemmas.Points.{new_counts}
use Rattle.session_tallying.proofs.spread.Goals as goal

pub returns-else-job : goal.returns-else-job
returns-else-job c = c.all_new.ensures ∙ new_counts c.args.job c.args.points.now c.args.n c.if-job.false c.requires
