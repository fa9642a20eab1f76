use mathlib.Core.Path.{sym, ◌∙◌, ap, subst}
use native.Mathlib.Omega.{arith}
use Rattle.ring.specs.RootTwo.{neg, conj}
use Rattle.ring.specs.RootTwo.Sized.{neg_size, conj_size, sized_more}
use Rattle.question_strips.specs.Reach.{Short}
use Rattle.question_strips.specs.Strips.{turn_even, turn_odd}
use Rattle.question_strips.proofs.turned.Statement.{statement}
use Rattle.question_strips.proofs.turned.Tie as tie

conjugate-requires : tie.Need-conjugate-c-requires
conjugate-requires c κs = sized_more 200 _ c.args.u (omega arith) c.requires

-- the conjugate, and its size
short : (c : tie.After-conjugate-c) → Short c.conjugate-c.result
short c = subst Short (sym c.conjugate-c.ensures) (conj_size 200 c.args.u c.requires)

opposite-requires : tie.Need-opposite-requires
opposite-requires c κs = sized_more 200 _ c.conjugate-c.result (omega arith) (short c.before)

returns : tie.Need-returns-then-k-eq0
returns c =
    let d = c.before in
    let s = d.before in
    (c.conjugate-c.ensures ∙ sym (turn_even c.args.k (conj c.args.u) (omega arith)), short d)

returns-2 : tie.Need-returns-else-k-eq0
returns-2 c =
    let d = c.before.before in
    let s = d.before in
    (c.opposite.ensures ∙ ap neg c.conjugate-c.ensures ∙ sym (turn_odd c.args.k (conj c.args.u) (omega arith)), subst Short (sym c.opposite.ensures) (neg_size 200 c.conjugate-c.result (short d)))

pub turned_spec : {M : Type 1} → statement M
turned_spec = tie.close (tie.spec conjugate-requires opposite-requires returns returns-2)
