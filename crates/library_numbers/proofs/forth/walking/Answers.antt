use Rattle.std.proofs.Common.{refl}
use Rattle.library_numbers.specs.Numbers.{stage_of, bit-set}
use Rattle.library_numbers.proofs.forth.walking.Goals as goal

pub returns : goal.returns
unfolding stage_of
returns c = (rw (c.flag.ensures, bit-set, c.shape_of.ensures, c.shape_of-2.ensures, c.spotted-p.ensures, c.eight_of.ensures) refl, refl)
