use Rattle.std.proofs.Common.{ap, sym, ◌∙◌}
use Rattle.list_input.specs.Load.{loaded_of}
use Rattle.part.specs.Answered.{long_part, refusal-part}
use Rattle.part.proofs.print.Goals as goal

pub returns-in-TooLong : goal.returns-in-TooLong
returns-in-TooLong g c = long_part c.args.lo c.args.hi c.args.bytes.now (ap loaded_of (sym c.in-TooLong.is) ∙ c.load-input.ensures) c.line.ensures

pub returns-in-Refused : goal.returns-in-Refused
returns-in-Refused g c = refusal-part c.args.lo c.args.hi c.args.bytes.now _ _ (ap loaded_of (sym c.in-Refused.is) ∙ c.load-input.ensures) c.line-in-Refused.ensures
