use Rattle.std.proofs.Common.{refl, sym, ap, ◌∙◌}
use Rattle.session_stages.specs.declared.Stage.TheVariants.{Walking}
use Rattle.library_numbers.specs.Numbers.{stage_1, stage_2, stage_3, stage_4, stage_other}
use Rattle.library_numbers.proofs.back.stage_of.Goals as goal

pub returns-in-1 : goal.returns-in-1
returns-in-1 c = sym (stage_1 c.args.s c.in-1.is refl)

pub returns-in-2 : goal.returns-in-2
returns-in-2 c = sym (stage_2 c.args.s c.in-2.is refl (sym c.is_set.ensures))

pub returns-in-3 : goal.returns-in-3
returns-in-3 c = sym (stage_3 c.args.s c.in-3.is refl (sym c.is_set-in-3.ensures) (sym c.region_of.ensures))

pub returns-in-4 : goal.returns-in-4
returns-in-4 c = ap Walking c.course_of.ensures ∙ sym (stage_4 c.args.s c.in-4.is)

pub returns-in_default : goal.returns-in_default
returns-in_default c = let r = c.in_default.in_default-own.rest in sym (stage_other c.args.s r.0.0.0.1 r.0.0.1 r.0.1 r.1)
