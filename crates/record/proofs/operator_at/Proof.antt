use mathlib.Core.Path.{◌∙◌}
use mir.Syntax.{w16}
use Rattle.integers.specs.lemmas.Size.{back}
use Rattle.record.specs.Record.{operator_of}
use borrow.Author.Rules.{rules}
use Rattle.record.proofs.operator_at.Statement.{statement}
use Rattle.record.proofs.operator_at.Tie as tie

i16-at-requires : tie.Need-i16_at-requires
i16-at-requires c κs = search rules

i16-at-requires-2 : tie.Need-i16_at-requires-2
i16-at-requires-2 c κs = search rules

i16-at-requires-3 : tie.Need-i16_at-requires-3
i16-at-requires-3 c κs = search rules

i16-at-requires-4 : tie.Need-i16_at-requires-4
i16-at-requires-4 c κs = search rules

i16-at-requires-5 : tie.Need-i16_at-requires-5
i16-at-requires-5 c κs = search rules

i16-at-requires-6 : tie.Need-i16_at-requires-6
i16-at-requires-6 c κs = search rules

i16-at-requires-7 : tie.Need-i16_at-requires-7
i16-at-requires-7 c κs = search rules

i16-at-requires-8 : tie.Need-i16_at-requires-8
i16-at-requires-8 c κs = search rules

returns : tie.Need-returns
unfolding operator_of
returns c = λ i. record {
  a = (back w16 c.i16_at.type_inv ∙ c.i16_at.ensures) i;
  b = (back w16 c.i16_at-2.type_inv ∙ c.i16_at-2.ensures) i;
  c = (back w16 c.i16_at-3.type_inv ∙ c.i16_at-3.ensures) i;
  d = (back w16 c.i16_at-4.type_inv ∙ c.i16_at-4.ensures) i;
  ai = (back w16 c.i16_at-5.type_inv ∙ c.i16_at-5.ensures) i;
  bi = (back w16 c.i16_at-6.type_inv ∙ c.i16_at-6.ensures) i;
  ci = (back w16 c.i16_at-7.type_inv ∙ c.i16_at-7.ensures) i;
  di = (back w16 c.i16_at-8.type_inv ∙ c.i16_at-8.ensures) i;
}

pub operator_at_spec : {M : Type 1} → statement M
operator_at_spec =
    tie.close
    (tie.spec
    i16-at-requires
    i16-at-requires-2
    i16-at-requires-3
    i16-at-requires-4
    i16-at-requires-5
    i16-at-requires-6
    i16-at-requires-7
    i16-at-requires-8
    returns)
