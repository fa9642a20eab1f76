use Rattle.std.proofs.Common.{refl}
use Rattle.walk_list.specs.Walk.{full}
use Rattle.session_stages.specs.Session.{steps}
use Rattle.session.proofs.has_solution.Goals as goal

pub returns-in-Walking : goal.returns-in-Walking
unfolding full
returns-in-Walking c = steps (rw (c.in-Walking.is, c.has_solution.ensures) refl)
