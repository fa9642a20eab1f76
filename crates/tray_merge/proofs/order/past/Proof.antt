use mathlib.Core.Path.{refl, ◌∙◌}
use borrow.Author.Rules.{rules}
use Rattle.tray_merge.proofs.order.past.Statement.{statement}
use Rattle.tray_merge.proofs.order.past.Tie as tie

enum-known-s : tie.Need-enum_known-s
enum-known-s c = search rules

is-before-requires : tie.Need-is_before-requires
is-before-requires c κs = search rules

enum_told : tie.Need-enum_told-1
enum_told c = search rules

returns : tie.Need-returns-in-Some
returns c = c.is_before.ensures ∙ rw c.in-Some.is refl

returns-2 : tie.Need-returns-in-None
returns-2 c = search rules

pub past_spec : {M : Type 1} → statement M
past_spec = tie.close (tie.spec enum-known-s is-before-requires enum_told returns returns-2)
