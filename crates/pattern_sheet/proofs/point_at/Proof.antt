use mathlib.Core.Path.{◌∙◌}
use mir.Syntax.{w32}
use Rattle.integers.specs.lemmas.Size.{back}
use Rattle.pattern_sheet.specs.Sheet.{point_ranked}
use borrow.Author.Rules.{rules}
use Rattle.pattern_sheet.proofs.point_at.Statement.{statement}
use Rattle.pattern_sheet.proofs.point_at.Tie as tie

i32-at-requires : tie.Need-i32_at-requires
i32-at-requires c κs = search rules

add-i32-at : tie.Need-overflow_add-i
add-i32-at c = search rules

i32-at-requires-2 : tie.Need-i32_at-requires-2
i32-at-requires-2 c κs = search rules

add-i32-at-2 : tie.Need-overflow_add-i-2
add-i32-at-2 c = search rules

i32-at-requires-3 : tie.Need-i32_at-requires-3
i32-at-requires-3 c κs = search rules

add-i32-at-3 : tie.Need-overflow_add-i-3
add-i32-at-3 c = search rules

i32-at-requires-4 : tie.Need-i32_at-requires-4
i32-at-requires-4 c κs = search rules

returns : tie.Need-returns
unfolding point_ranked
returns c = λ i. record {
  a = (back w32 c.i32_at.type_inv ∙ c.i32_at.ensures) i;
  b = (back w32 c.i32_at-2.type_inv ∙ c.i32_at-2.ensures) i;
  c = (back w32 c.i32_at-3.type_inv ∙ c.i32_at-3.ensures) i;
  d = (back w32 c.i32_at-4.type_inv ∙ c.i32_at-4.ensures) i;
}

pub point_at_spec : {M : Type 1} → statement M
point_at_spec =
    tie.close
    (tie.spec
    i32-at-requires
    add-i32-at
    i32-at-requires-2
    add-i32-at-2
    i32-at-requires-3
    add-i32-at-3
    i32-at-requires-4
    returns)
