-- `holding` meets its contract. Assumes nothing.
use mathlib.Core.Path.{refl}
use Rattle.library_numbers.specs.Numbers.{bit-set}
use Rattle.library_trays.specs.Numbers.{stage_of}
use borrow.Author.Rules.{rules}
use Rattle.library_trays.proofs.forth.holding.Statement.{statement}
use Rattle.library_trays.proofs.forth.holding.Tie as tie

shapes-of-requires : tie.Need-shapes_of-a-requires
shapes-of-requires c κs = search rules

shape-of-requires : tie.Need-shape_of-b-requires
shape-of-requires c κs = search rules

spotted-requires : tie.Need-spotted-at-requires
spotted-requires c κs = search rules

flag-requires : tie.Need-flag-requires
flag-requires c κs = search rules

returns : tie.Need-returns
unfolding stage_of
returns c = rw (c.flag.ensures, bit-set, c.spotted-at.ensures, c.shape_of-b.ensures, c.shapes_of-a.ensures) refl

pub holding_spec : {M : Type 1} → statement M
holding_spec = tie.close (tie.spec shapes-of-requires shape-of-requires spotted-requires flag-requires returns)
