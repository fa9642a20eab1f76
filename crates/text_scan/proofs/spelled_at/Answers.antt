-- With a minus, or with none.
use Rattle.std.proofs.Common.{◌≡◌, false, get_or, arith}
use borrow.Author.Tests.{eq-eqb, ne_eqb}
use lib.Dec.{eqb}
use lib.ListN.{get_or-eq_default}
use Rattle.text_scan.specs.Number.{number_at}
use Rattle.text_scan.proofs.spelled_at.Goals as goal
use Rattle.text_scan.proofs.spelled_at.Goals.{else-at-s-via-then-at-s+else-s-at-eq45, else-at-s-via-else-at-s}

pub returns-then-s-at-eq45 : goal.returns-then-s-at-eq45
unfolding number_at
returns-then-s-at-eq45 c top h = rw (eq-eqb _ _ c.if-s-at-eq45.true) (c.spelled_from.ensures top h)

pub returns-else-at-s : goal.returns-else-at-s
unfolding number_at
returns-else-at-s c top h =
    let s = c.args.s.now in
    let e : eqb (get_or c.args.s.now c.args.at 0) 45 ≡ false = ne_eqb (get_or s c.args.at 0) 45
    (elim c.else-at-s.branch [ else-at-s-via-then-at-s+else-s-at-eq45 w ↦ w.if-s-at-eq45.false | else-at-s-via-else-at-s w ↦ (λ e. omega (arith, e, get_or-eq_default s 0 w.if-at-s.false)) ]) in
    rw e (c.spelled_from-else-at-s.ensures top h)
