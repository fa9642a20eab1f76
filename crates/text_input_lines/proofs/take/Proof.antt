-- `take` meets its contract. Assumes nothing.
use mathlib.Core.Path.{refl}
use Rattle.text_input_lines.specs.Gathered.{ended, grew}
use borrow.Author.Rules.{rules}
use Rattle.text_input_lines.proofs.take.Statement.{statement}
use Rattle.text_input_lines.proofs.take.Tie as tie

empty-requires : tie.Need-empty-requires
empty-requires c κs = search rules

whole-requires : tie.Need-whole-requires
whole-requires c κs = search rules

returns : tie.Need-returns-then-b-eq10
returns c = ended c.if-b-eq10.true refl (rw (c.empty.ensures, c.whole.ensures) refl)

grown-requires : tie.Need-grown-requires
grown-requires c κs = search rules

same_length : tie.Need-shape_of-line
same_length c = search rules

returns-2 : tie.Need-returns
returns-2 c = grew c.if-b-eq10.false c.grown.ensures refl

pub take_spec : {M : Type 1} → statement M
take_spec =
    tie.close (tie.spec empty-requires whole-requires returns grown-requires same_length returns-2)
