use Rattle.std.proofs.Common.{refl, ne_eqb}
use Rattle.library_numbers.specs.Numbers.{spot_of}
use Rattle.library_numbers.proofs.back.spot_of.Goals as goal

pub returns-then-ended-eq0 : goal.returns-then-ended-eq0
unfolding spot_of
returns-then-ended-eq0 c = rw c.if-ended-eq0.true refl

pub returns-else-ended-eq0 : goal.returns-else-ended-eq0
unfolding spot_of
returns-else-ended-eq0 c = rw (ne_eqb _ 0 c.if-ended-eq0.false) refl
