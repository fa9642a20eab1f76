use mathlib.Core.Path.{◌∙◌}
use mir.Syntax.{w16, w32}
use Rattle.integers.specs.lemmas.Size.{back}
use Rattle.record.specs.Record.{slice_of}
use borrow.Author.Rules.{rules}
use Rattle.record.proofs.slice_at.Statement.{statement}
use Rattle.record.proofs.slice_at.Tie as tie

u16-at-requires : tie.Need-u16_at-requires
u16-at-requires c κs = search rules

i16-at-requires : tie.Need-i16_at-requires
i16-at-requires c κs = search rules

i16-at-requires-2 : tie.Need-i16_at-requires-2
i16-at-requires-2 c κs = search rules

i32-at-requires : tie.Need-i32_at-requires
i32-at-requires c κs = search rules

returns : tie.Need-returns
unfolding slice_of
returns c = λ i. record {
  n = c.u16_at.ensures i;
  zx = (back w16 c.i16_at.type_inv ∙ c.i16_at.ensures) i;
  zy = (back w16 c.i16_at-2.type_inv ∙ c.i16_at-2.ensures) i;
  w = (back w32 c.i32_at.type_inv ∙ c.i32_at.ensures) i;
}

pub slice_at_spec : {M : Type 1} → statement M
slice_at_spec =
    tie.close
    (tie.spec u16-at-requires i16-at-requires i16-at-requires-2 i32-at-requires returns)
