-- A field is read by its sign and its size.
use Rattle.std.proofs.Common.{sym, ap, ◌∙◌, pos, arith, w16, w32, w64}
use Rattle.integers.specs.lemmas.Size.{back}
use Rattle.record_fields.specs.Field.{one}
use Rattle.record_text.specs.Fields.{signed_is, unsigned_is, two, four}
use Rattle.record_forms.specs.Forms.{number_at}
use Rattle.record_text.proofs.numbers.number.Goals as goal

pub returns-in-false-eq1 : goal.returns-in-false-eq1
unfolding number_at
returns-in-false-eq1 c =
    back w64 c.from-in-false-eq1.type_inv ∙ c.from-in-false-eq1.ensures ∙ ap pos (sym (one c.args.s.now c.args.k))
    ∙ unsigned_is c.args.f c.args.s.now c.args.k 1 c.in-false-eq1.is-0 c.in-false-eq1.is-1

pub returns-in-false-eq2 : goal.returns-in-false-eq2
unfolding number_at
returns-in-false-eq2 c =
    back w64 c.from-in-false-eq2.type_inv ∙ c.from-in-false-eq2.ensures ∙ ap pos c.u16_at.ensures
    ∙ unsigned_is c.args.f c.args.s.now c.args.k 2 c.in-false-eq2.is-0 c.in-false-eq2.is-1

pub u32_at-requires : goal.u32_at-requires
u32_at-requires c =
    let r = c.requires.0 in
    let m = c.in-false-default.is-1 in
    let e = four c.args.f r (two c.args.f r m.0.1) m.1 in
    let h = c.requires.1 in
    omega arith

pub returns-in-false-default : goal.returns-in-false-default
unfolding number_at
returns-in-false-default c =
    let r = c.requires.0 in
    let m = c.in-false-default.is-1 in
    back w64 c.from-in-false-default.type_inv ∙ c.from-in-false-default.ensures ∙ ap pos c.u32_at.ensures
    ∙ unsigned_is c.args.f c.args.s.now c.args.k 4 c.in-false-default.is-0 (four c.args.f r (two c.args.f r m.0.1) m.1)

pub returns-in-true-eq2 : goal.returns-in-true-eq2
unfolding number_at
returns-in-true-eq2 c =
    back w64 c.from.type_inv ∙ c.from.ensures ∙ back w16 c.i16_at.type_inv ∙ c.i16_at.ensures
    ∙ signed_is c.args.f c.args.s.now c.args.k 2 c.in-true-eq2.is-0 c.in-true-eq2.is-1

pub returns-in-true-default : goal.returns-in-true-default
unfolding number_at
returns-in-true-default c =
    let r = c.requires.0 in
    back w64 c.from-in-true-default.type_inv ∙ c.from-in-true-default.ensures ∙ back w32 c.i32_at.type_inv ∙ c.i32_at.ensures
    ∙ signed_is c.args.f c.args.s.now c.args.k 4 c.in-true-default.is-0 (four c.args.f r (r.wide c.in-true-default.is-0) c.in-true-default.is-1.1)
