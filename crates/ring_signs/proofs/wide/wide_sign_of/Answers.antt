-- The five cases of the signs of p and q.
use Rattle.std.proofs.Common.{◌≡◌, nat_abs, sym, ◌∙◌, ap, arith, rules}
use Rattle.integers_wide.specs.Meaning.{meaning}
use Rattle.ring.specs.Sign.{opposite, signs, gap_sign, sign_zero, sign-plus, sign-gap, sign-turned, sign-minus}
use Rattle.ring_signs.proofs.wide.wide_sign_of.Goals as goal

pub returns-in-true-true : goal.returns-in-true-true
returns-in-true-true c = signs (sym (sign_zero (meaning c.args.p) (meaning c.args.q) (search rules) (search rules) (grind arith) (grind arith)))

pub returns-in-true-true-2 : goal.returns-in-true-true-2
returns-in-true-true-2 c = signs (sym (sign-plus (meaning c.args.p) (meaning c.args.q) (search rules) (search rules) (grind arith)))

pub returns-in-true-true-2-2 : goal.returns-in-true-true-2-2
returns-in-true-true-2-2 c = signs (sym (sign-plus (meaning c.args.p) (meaning c.args.q) (search rules) (search rules) (grind arith)))

pub returns-in-true-false : goal.returns-in-true-false
returns-in-true-false c =
    let e : c.wide_gap_sign.result ≡ gap_sign (nat_abs (meaning c.args.p)) (nat_abs (meaning c.args.q)) = search rules in
    signs (e ∙ sym (sign-gap (meaning c.args.p) (meaning c.args.q) (search rules) (search rules)))

pub returns-in-false-true : goal.returns-in-false-true
returns-in-false-true c =
    let e : c.wide_gap_sign-in-false-true.result ≡ gap_sign (nat_abs (meaning c.args.p)) (nat_abs (meaning c.args.q)) = search rules in
    signs (c.turned.ensures ∙ ap opposite e ∙ sym (sign-turned (meaning c.args.p) (meaning c.args.q) (search rules) (search rules)))

pub returns-in-false-false : goal.returns-in-false-false
returns-in-false-false c = signs (sym (sign-minus (meaning c.args.p) (meaning c.args.q) (search rules) (search rules)))
