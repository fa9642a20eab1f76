use Rattle.std.proofs.Common.{◌≡◌, sym, true, false, rules, ne_eqb}
use Rattle.std.proofs.lemmas.Iterator.{cases_from_all, YieldsList-from_slice, YieldsList-from_zip}
use borrow.Author.Tests.{tests}
use Rattle.record_forms.specs.Forms.{takes}
use Rattle.record_forms.proofs.Steps.{takes-length, takes_zip}
use Rattle.record_forms.proofs.takes_all.Goals as goal

pub returns-then-fields-numbers : goal.returns-then-fields-numbers
returns-then-fields-numbers c =
    let z = cases_from_all c.all.new.self _ _ (λ p. takes p.0 p.1 ≡ true) (λ p. takes p.0 p.1 ≡ false) c.all.ensures.ran (YieldsList-from_zip {s = c.zip.result} (YieldsList-from_slice c.form_of-fields.result.now cc) (YieldsList-from_slice c.args.numbers.now cc)) (λ x q k. search (rules, tests)) (λ x q k. search (rules, tests)) in
    rw (← c.form_of-fields.ensures.is) (takes_zip c.form_of-fields.result.now c.args.numbers.now c.all.result c.if-fields-numbers.true z)

pub returns-else-fields-numbers : goal.returns-else-fields-numbers
returns-else-fields-numbers c =
    rw (ne_eqb _ _ c.if-fields-numbers.false) (sym (rw (← c.form_of-fields.ensures.is) (takes-length c.form_of-fields.result.now c.args.numbers.now c.if-fields-numbers.false)))
