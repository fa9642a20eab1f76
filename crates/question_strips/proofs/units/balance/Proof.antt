use mathlib.Core.Path.{sym, subst}
use Prim.Native.Nat.{◌^◌}
use native.Mathlib.Omega.{arith}
use borrow.Author.Rules.{rules}
use Rattle.ring.specs.RootTwo.Sized.{sized_more}
use Rattle.question_strips.specs.Units.{Unit, unit-conj}
use Rattle.question_strips.proofs.units.balance.Statement.{statement}
use Rattle.question_strips.proofs.units.balance.Tie as tie

width-requires : tie.Need-width-a-requires
width-requires c κs = search rules

width-requires-2 : tie.Need-width-b-requires
width-requires-2 c κs = search rules

steps-requires : tie.Need-steps-requires
steps-requires c κs = search rules

unit-requires : tie.Need-unit-requires
unit-requires c κs = search rules

steps-requires-2 : tie.Need-steps-requires-else-a-b
steps-requires-2 c κs = search rules

unit-requires-2 : tie.Need-unit-requires-else-a-b
unit-requires-2 c κs = search rules

conjugate-requires : tie.Need-conjugate-requires
conjugate-requires c κs = sized_more (2 ^ 17) (2 ^ 60) _ (omega arith) c.unit-else-a-b.ensures.size

returns : tie.Need-returns-then-a-b
returns c = search rules

returns-2 : tie.Need-returns-else-a-b
returns-2 c = subst Unit (sym c.conjugate.ensures) (unit-conj c.unit-else-a-b.result c.unit-else-a-b.ensures)

pub balance_spec : {M : Type 1} → statement M
balance_spec =
    tie.close
    (tie.spec
    width-requires
    width-requires-2
    steps-requires
    unit-requires
    steps-requires-2
    unit-requires-2
    conjugate-requires
    returns
    returns-2)
