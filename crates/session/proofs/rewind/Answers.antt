use Rattle.std.proofs.Common.{refl, ◌∙◌}
use Rattle.session_stages.specs.Session.{steps}
use Rattle.session_turns.proofs.Machine.{left-fits}
use Rattle.session.proofs.rewind.Goals as goal

pub returns-in-Early : goal.returns-in-Early
returns-in-Early c = record {
  steps = steps (rw (c.no_job.ensures.0, c.no_job.ensures.1, c.in-Early.is) refl);
  fits = left-fits c.no_job.result _ c.no_job.type_inv;
}

pub returns-in-Walking : goal.returns-in-Walking
returns-in-Walking c = record {
  steps = steps (c.rewound.ensures ∙ rw c.in-Walking.is refl);
  fits = left-fits c.rewound.result _ c.rewound.type_inv;
}
