use Rattle.std.proofs.Common.{[], ap}
use Rattle.session_stages.specs.declared.Session.{Session}
use Rattle.session_stages.specs.declared.Answer.TheVariants.{Done}
use Rattle.session_stages.specs.Session.{outcome, steps}
use Rattle.session_stages.proofs.clear.Goals as goal

pub returns : goal.returns
returns c = steps (ap (λ (t : Session). outcome [] t Done) c.start.ensures)
