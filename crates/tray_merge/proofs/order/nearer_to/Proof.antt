use mathlib.Core.Path.{refl, sym, ap, ◌∙◌}
use native.Mathlib.Nat.{min-eq_left, min-eq_right, le_of_lt}
use borrow.Author.Tests.{ltb-true, ltb-false}
use borrow.Author.Rules.{rules}
use Rattle.ranks.specs.Rest.{at}
use Rattle.tray_merge.proofs.order.nearer_to.Statement.{statement}
use Rattle.tray_merge.proofs.order.nearer_to.Tie as tie

enum-known-w : tie.Need-enum_known-w
enum-known-w c = search rules

before-requires : tie.Need-before-requires
before-requires c κs = search rules

enum_told : tie.Need-enum_told-1
enum_told c = search rules

returns : tie.Need-returns-then-before
returns c =
    let k = c in
    let h = ltb-true _ _ (sym c.before.before-in-Some.ensures ∙ c.if-before.true) in
    rw c.in-Some.is (ap at (sym (min-eq_right (le_of_lt h))))

returns-2 : tie.Need-returns-else-before
returns-2 c =
    let k = c in
    let h = ltb-false _ _ (sym c.before.before-in-Some.ensures ∙ c.if-before.false) in
    rw c.in-Some.is (ap at (sym (min-eq_left h)))

returns-3 : tie.Need-returns-in-None
returns-3 c = rw c.in-None.is refl

pub nearer_to_spec : {M : Type 1} → statement M
nearer_to_spec =
    tie.close (tie.spec enum-known-w before-requires enum_told returns returns-2 returns-3)
