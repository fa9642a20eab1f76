use mathlib.Core.Path.{◌∙◌}
use mir.Syntax.{w32}
use Rattle.integers.specs.lemmas.Size.{back}
use Rattle.record.specs.Record.{rectangle_of}
use borrow.Author.Rules.{rules}
use Rattle.record.proofs.rectangle_at.Statement.{statement}
use Rattle.record.proofs.rectangle_at.Tie as tie

u16-at-requires : tie.Need-u16_at-requires
u16-at-requires c κs = search rules

i32-at-requires : tie.Need-i32_at-requires
i32-at-requires c κs = search rules

i32-at-requires-2 : tie.Need-i32_at-requires-2
i32-at-requires-2 c κs = search rules

i32-at-requires-3 : tie.Need-i32_at-requires-3
i32-at-requires-3 c κs = search rules

i32-at-requires-4 : tie.Need-i32_at-requires-4
i32-at-requires-4 c κs = search rules

returns : tie.Need-returns
unfolding rectangle_of
returns c = λ i. record {
  n = c.u16_at.ensures i;
  xl = (back w32 c.i32_at.type_inv ∙ c.i32_at.ensures) i;
  xh = (back w32 c.i32_at-2.type_inv ∙ c.i32_at-2.ensures) i;
  yl = (back w32 c.i32_at-3.type_inv ∙ c.i32_at-3.ensures) i;
  yh = (back w32 c.i32_at-4.type_inv ∙ c.i32_at-4.ensures) i;
}

pub rectangle_at_spec : {M : Type 1} → statement M
rectangle_at_spec =
    tie.close
    (tie.spec
    u16-at-requires
    i32-at-requires
    i32-at-requires-2
    i32-at-requires-3
    i32-at-requires-4
    returns)
