use Rattle.std.proofs.Common.{rules, ◌≡◌, refl, sym, ◌∙◌, ap, w64, to_z, of_z, Ok, Err}
use Rattle.integers.specs.lemmas.Size.{back}
use Rattle.operator.specs.Operator.{det_whole, check_of}
use Rattle.operator.specs.Inverse.{times, inverse_of, inverts}
use Rattle.operator.specs.Accepted.{accepted}
use Rattle.operator.specs.lemmas.Adjugate.{adjugate-small}
use Rattle.operator.proofs.Operator.inverse.Goals as goal
use Rattle.operator.proofs.Operator.inverse.Goals.{In_ok-check, After-whole}

passed : (c : In_ok-check) → check_of c.args.self ≡ Ok (tt {0})
passed c = sym c.in_ok-check.ensures.check

whole_is : (c : After-whole) → to_z w64 (of_z w64 c.whole.result) ≡ det_whole c.args.self
whole_is c = back w64 c.whole.type_inv ∙ c.whole.ensures

pub returns-in_err-check : goal.returns-in_err-check
unfolding inverse_of
returns-in_err-check c = inverts (rw (sym c.in_err-check.ensures.check) (search rules))

pub adjugate-requires : goal.adjugate-requires
adjugate-requires c = (accepted _ (passed c)).small

pub times-requires : goal.times-requires
times-requires c =
    let a = accepted _ (passed (goal.at.times-requires c).In_ok-check) in
    rw (whole_is c, c.adjugate.ensures) (a.unit, adjugate-small 100 _ a.small)

pub returns : goal.returns
unfolding inverse_of
returns c =
    inverts (rw (passed (goal.at.returns c).In_ok-check) (ap Ok (c.times.ensures ∙ rw (whole_is (goal.at.returns c).After-whole, c.adjugate.ensures) refl)))
