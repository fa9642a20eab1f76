use Rattle.std.proofs.Common.{◌∙◌, lt-ltb}
use Rattle.text.proofs.Words.{tens_over, tens_lower}
use Rattle.text.proofs.wide.has_tens.Goals as goal

pub returns-then-n-gt0 : goal.returns-then-n-gt0
returns-then-n-gt0 c = lt-ltb 0 c.args.n.hi c.if-n-gt0.true ∙ tens_over c.args.n c.if-n-gt0.true

pub returns-else-n-gt0 : goal.returns-else-n-gt0
returns-else-n-gt0 c = tens_lower c.args.n c.if-n-gt0.false
