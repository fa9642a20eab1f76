-- `all_new` meets its contract. Assumes nothing.
use Rattle.std.proofs.Common.{rules}
use Rattle.session_tally.specs.lemmas.Places.{alone-set, alone-past}
use Rattle.session_tally.proofs.all_new.Goals as goal

pub returns-then-e-lt21 : goal.returns-then-e-lt21
returns-then-e-lt21 c = rw c.from-e.ensures (alone-set _ _)

pub returns-else-e-lt21 : goal.returns-else-e-lt21
returns-else-e-lt21 c = alone-past _ _ (search rules)
