use Rattle.std.proofs.Common.{refl, ap, ◌∙◌}
use Rattle.library_numbers.specs.Numbers.{region_of, stage_0, stage_1, stage_2, stage_3}
use Rattle.library_numbers.proofs.forth.early.Goals as goal

pub returns-in-Nothing : goal.returns-in-Nothing
returns-in-Nothing c = let e = c.part.ensures in (stage_0 c.part.result e.0 ∙ rw c.in-Nothing.is refl, e.4)

pub returns-in-Scaled : goal.returns-in-Scaled
returns-in-Scaled c = let e = c.part-in-Scaled.ensures in (stage_1 c.part-in-Scaled.result e.0 e.1 ∙ rw c.in-Scaled.is refl, e.4)

pub returns-in-Selected : goal.returns-in-Selected
returns-in-Selected c = let e = c.part-in-Selected.ensures in (stage_2 c.part-in-Selected.result e.0 e.1 e.2 ∙ rw c.in-Selected.is refl, e.4)

pub returns-in-First : goal.returns-in-First
returns-in-First c = let e = c.part-in-First.ensures in (stage_3 c.part-in-First.result e.0 e.1 e.2 (ap region_of e.3 ∙ c.shape_of.ensures) ∙ rw c.in-First.is refl, e.4)
