-- Sizes that the bound tells apart.
use Rattle.std.proofs.Common.{◌≡◌, ◌+◌, ◌/◌, ◌^◌, ◌≤◌, ◌<◌, nat_abs, sym, ◌∙◌, arith, rules}
use Rattle.ring.specs.Sign.{signs, of_part, RootNear, root-less, root-more, sign-less, sign-more}
use Rattle.ring_signs.proofs.near_sign_of.Goals as goal

pub returns-then-a-r : goal.returns-then-a-r
returns-then-a-r c =
    let p : c.unsigned_abs-a.result ≡ nat_abs c.args.p = search rules in
    let q : c.unsigned_abs-b.result ≡ nat_abs c.args.q = search rules in
    let n : RootNear (nat_abs c.args.q) c.root_times-r.result = rw (← q) c.root_times-r.ensures in
    let l : nat_abs c.args.p < c.root_times-r.result = rw (← p) c.if-a-r.true in
    let o : 0 < nat_abs c.args.q = omega (arith, n.low) in
    let e : c.sign_of_part.result ≡ of_part c.args.q = search rules in
    signs (e ∙ sym (sign-less c.args.p c.args.q o (root-less (nat_abs c.args.p) (nat_abs c.args.q) c.root_times-r.result n l)))

pub returns-then-r-b : goal.returns-then-r-b
returns-then-r-b c =
    let p : c.unsigned_abs-a.result ≡ nat_abs c.args.p = search rules in
    let q : c.unsigned_abs-b.result ≡ nat_abs c.args.q = search rules in
    let n : RootNear (nat_abs c.args.q) c.root_times-r.result = rw (← q) c.root_times-r.ensures in
    let l : c.root_times-r.result + nat_abs c.args.q / 2 ^ 30 + 2 ≤ nat_abs c.args.p = rw (← p, ← q) c.if-r-b.true in
    let e : c.sign_of_part-then-r-b.result ≡ of_part c.args.p = search rules in
    signs (e ∙ sym (sign-more c.args.p c.args.q (omega arith) (root-more (nat_abs c.args.p) (nat_abs c.args.q) c.root_times-r.result n l)))
