-- `next` meets its contract. Assumes nothing.
use mathlib.Core.Path.{refl}
use Rattle.list_output.proofs.Lines.{filled_none, filled_part}
use borrow.Author.Rules.{rules}
use Rattle.list_output.proofs.next.Statement.{statement}
use Rattle.list_output.proofs.next.Tie as tie

returns : tie.Need-returns-then-out-lt126
returns c = filled_none _ _ _ c.if-out-lt126.true refl refl

part-requires : tie.Need-part-requires
part-requires c κs = search rules

same_length : tie.Need-shape_of-out
same_length c = search rules

returns-2 : tie.Need-returns
returns-2 c = filled_part _ _ _ _ c.if-out-lt126.false c.part.ensures

pub next_spec : {M : Type 1} → statement M
next_spec = tie.close (tie.spec returns part-requires same_length returns-2)
