use Rattle.std.proofs.Common.{rules}
use Rattle.record_ranges.proofs.ellipse.Goals as goal
use Rattle.record_ranges.proofs.ellipse.Goals.{then-within_short, else-within_short}

pub returns-else-between-3 : goal.returns-else-between-3
returns-else-between-3 c =
    elim c.if-within_short.branch [ then-within_short w ↦ search rules | else-within_short w ↦ search rules ]
