use mathlib.Core.Path.{◌≡◌, refl, sym, ◌∙◌, ap}
use mathlib.Core.Bool.{true, not}
use borrow.Author.Tests.{not-true, not-false}
use Rattle.operator.specs.Operator.{in_range, even_parity, check_of, tests}
use borrow.Author.Rules.{rules}
use Rattle.operator.proofs.Operator.check.Statement.{statement}
use Rattle.operator.proofs.Operator.check.Tie as tie

in-range : (c : tie.Else-not-in_range) → in_range c.args.self ≡ true
in-range c = sym c.in_range.ensures ∙ not-false _ (ap not c.if-not-in_range.false)

even : (c : tie.Else-not-is_even) → even_parity c.args.self ≡ true
even c = sym c.is_even.ensures ∙ not-false _ (ap not c.if-not-is_even.false)

in-range-requires : tie.Need-in_range-requires
in-range-requires c κs = search rules

returns : tie.Need-returns-then-not-in_range
unfolding check_of
returns c = tests (rw (sym c.in_range.ensures ∙ not-true _ (ap not c.if-not-in_range.true)) refl)

is-even-requires : tie.Need-is_even-requires
is-even-requires c κs = search rules

returns-2 : tie.Need-returns-then-not-is_even
unfolding check_of
returns-2 c = tests (rw (in-range c.before.before, sym c.is_even.ensures ∙ not-true _ (ap not c.if-not-is_even.true)) refl)

is-special-requires : tie.Need-is_special-requires
is-special-requires c κs = search rules

returns-3 : tie.Need-returns-then-not-is_special
unfolding check_of
returns-3 c = tests (rw (in-range c.before.before.before.before, even c.before.before, sym c.is_special.ensures ∙ not-true _ (ap not c.if-not-is_special.true)) refl)

returns-4 : tie.Need-returns
unfolding check_of
returns-4 c = tests (rw (in-range c.before.before.before.before, even c.before.before, sym c.is_special.ensures ∙ not-false _ (ap not c.if-not-is_special.false)) refl)

pub check_spec : {M : Type 1} → statement M
check_spec =
    tie.close
    (tie.spec
    in-range-requires
    returns
    is-even-requires
    returns-2
    is-special-requires
    returns-3
    returns-4)
