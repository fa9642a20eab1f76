use Rattle.std.proofs.Common.{rules}
use Rattle.ring.specs.Point.{√2x_parts}
use Rattle.ring.proofs.Point.real.Goals as goal

pub returns : goal.returns
returns c = rw √2x_parts (search rules)
