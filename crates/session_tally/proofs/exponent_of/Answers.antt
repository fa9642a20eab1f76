-- `exponent_of` meets its contract. Assumes nothing.
use Rattle.std.proofs.Common.{sym, ◌∙◌}
use Rattle.session_tally.specs.Odd.{odd-exponent}
use Rattle.session_tally.proofs.exponent_of.Goals as goal

pub returns-then-is_odd : goal.returns-then-is_odd
returns-then-is_odd c = c.from.ensures ∙ sym (odd-exponent c.args.k c.args.v (sym c.is_odd.ensures ∙ c.if-is_odd.true))
