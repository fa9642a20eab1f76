use Rattle.std.proofs.Common.{refl}
use Rattle.library_numbers.specs.Numbers.{spot_of}
use Rattle.library_numbers.proofs.forth.spotted.Goals as goal

pub returns-in-Some : goal.returns-in-Some
unfolding spot_of
returns-in-Some c = rw (c.four_of.ensures, c.in-Some.is) refl

pub returns-in-None : goal.returns-in-None
unfolding spot_of
returns-in-None c = rw c.in-None.is refl
