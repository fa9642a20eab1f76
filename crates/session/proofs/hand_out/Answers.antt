use Rattle.std.proofs.Common.{refl}
use Rattle.session_turns.proofs.Machine.{left-fits}
use Rattle.session.proofs.hand_out.Goals as goal

pub returns-in-Early : goal.returns-in-Early
returns-in-Early c = record {
  hands = rw (c.no_job.ensures.0, c.no_job.ensures.1, c.in-Early.is) (record { met = refl; values = refl; slice = refl });
  fits = left-fits c.no_job.result _ c.no_job.type_inv;
}

pub returns-in-Walking : goal.returns-in-Walking
returns-in-Walking c = record {
  hands = rw c.in-Walking.is c.from_course.ensures;
  fits = left-fits c.from_course.result _ c.from_course.type_inv;
}
