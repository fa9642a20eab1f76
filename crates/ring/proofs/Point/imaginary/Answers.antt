use Rattle.std.proofs.Common.{rules}
use Rattle.ring.specs.Point.{√2y_parts}
use Rattle.ring.proofs.Point.imaginary.Goals as goal

pub returns : goal.returns
returns c = rw √2y_parts (search rules)
