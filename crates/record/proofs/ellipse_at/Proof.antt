use mathlib.Core.Path.{◌∙◌}
use mir.Syntax.{w16, w32}
use Rattle.integers.specs.lemmas.Size.{back}
use Rattle.record.specs.Record.{ellipse_of}
use borrow.Author.Rules.{rules}
use Rattle.record.proofs.ellipse_at.Statement.{statement}
use Rattle.record.proofs.ellipse_at.Tie as tie

u16-at-requires : tie.Need-u16_at-requires
u16-at-requires c κs = search rules

i32-at-requires : tie.Need-i32_at-requires
i32-at-requires c κs = search rules

i32-at-requires-2 : tie.Need-i32_at-requires-2
i32-at-requires-2 c κs = search rules

u16-at-requires-2 : tie.Need-u16_at-requires-2
u16-at-requires-2 c κs = search rules

i16-at-requires : tie.Need-i16_at-requires
i16-at-requires c κs = search rules

u16-at-requires-3 : tie.Need-u16_at-requires-3
u16-at-requires-3 c κs = search rules

u32-at-requires : tie.Need-u32_at-requires
u32-at-requires c κs = search rules

returns : tie.Need-returns
unfolding ellipse_of
returns c = λ i. record {
  n = c.u16_at.ensures i;
  cx = (back w32 c.i32_at.type_inv ∙ c.i32_at.ensures) i;
  cy = (back w32 c.i32_at-2.type_inv ∙ c.i32_at-2.ensures) i;
  p = c.u16_at-2.ensures i;
  q = (back w16 c.i16_at.type_inv ∙ c.i16_at.ensures) i;
  r = c.u16_at-3.ensures i;
  s = c.u32_at.ensures i;
}

pub ellipse_at_spec : {M : Type 1} → statement M
ellipse_at_spec =
    tie.close
    (tie.spec
    u16-at-requires
    i32-at-requires
    i32-at-requires-2
    u16-at-requires-2
    i16-at-requires
    u16-at-requires-3
    u32-at-requires
    returns)
