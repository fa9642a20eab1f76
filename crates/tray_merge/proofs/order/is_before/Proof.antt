use mathlib.Core.Path.{refl, ◌∙◌}
use borrow.Author.Rules.{rules}
use Rattle.tray_merge.proofs.order.is_before.Statement.{statement}
use Rattle.tray_merge.proofs.order.is_before.Tie as tie

enum-known-f : tie.Need-enum_known-f
enum-known-f c = search rules

before-requires : tie.Need-before-requires
before-requires c κs = search rules

enum_told : tie.Need-enum_told-1
enum_told c = search rules

returns : tie.Need-returns-in-Some
returns c = c.before-in-Some.ensures ∙ rw c.in-Some.is refl

returns-2 : tie.Need-returns-in-None
returns-2 c = search rules

pub is_before_spec : {M : Type 1} → statement M
is_before_spec = tie.close (tie.spec enum-known-f before-requires enum_told returns returns-2)
