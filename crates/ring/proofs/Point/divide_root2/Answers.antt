use Rattle.std.proofs.Common.{rules}
use Rattle.ring.specs.Point.Divide.{divide_is}
use Rattle.ring.proofs.Point.divide_root2.Goals as goal
use Rattle.ring.proofs.Point.divide_root2.Goals.{else-is_even-via-then-is_even+else-is_even-2, else-is_even-via-else-is_even}

pub returns-then-is_even-2 : goal.returns-then-is_even-2
returns-then-is_even-2 c = rw divide_is (search rules)

pub returns-else-is_even : goal.returns-else-is_even
returns-else-is_even c =
    elim c.else-is_even.branch [ else-is_even-via-then-is_even+else-is_even-2 w ↦ rw divide_is (search rules) | else-is_even-via-else-is_even w ↦ rw divide_is (search rules) ]
