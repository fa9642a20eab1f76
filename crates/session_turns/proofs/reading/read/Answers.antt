use Rattle.std.proofs.Common.{sym, ap, ◌∙◌}
use Rattle.record.specs.Record.{reading_of}
use Rattle.session_stages.specs.Session.{steps, outcome_of, refused_outcome, reading_outcome}
use Rattle.session_turns.proofs.Machine.{left-fits}
use Rattle.session_turns.proofs.reading.read.Goals as goal

pub returns-in-Accepted : goal.returns-in-Accepted
returns-in-Accepted c = record {
  steps = steps
      (c.accepted.ensures
      ∙ ap (outcome_of c.args.s) (c.in-Accepted.ensures.reading ∙ ap (reading_of c.args.bytes.now) c.turn.ensures)
      ∙ sym (reading_outcome c.args.s.stage c.args.bytes.now));
  fits = left-fits c.accepted.result _ c.accepted.type_inv;
}

pub returns-in-Refused : goal.returns-in-Refused
returns-in-Refused c = record {
  steps = steps
      (rw (c.refused.ensures.0, c.refused.ensures.1) (refused_outcome c.args.s.stage c.in-Refused.f)
      ∙ ap (outcome_of c.args.s) (c.in-Refused.ensures.reading ∙ ap (reading_of c.args.bytes.now) c.turn.ensures)
      ∙ sym (reading_outcome c.args.s.stage c.args.bytes.now));
  fits = left-fits c.refused.result _ c.refused.type_inv;
}
