use mathlib.Core.Path.{refl, ◌∙◌}
use borrow.Author.Rules.{rules}
use Rattle.tray_merge.proofs.order.nearer.Statement.{statement}
use Rattle.tray_merge.proofs.order.nearer.Tie as tie

enum-known-s : tie.Need-enum_known-s
enum-known-s c = search rules

nearer-to-requires : tie.Need-nearer_to-requires
nearer-to-requires c κs = search rules

enum_told : tie.Need-enum_told-1
enum_told c = search rules

returns : tie.Need-returns-in-Some
returns c = c.nearer_to.ensures ∙ rw c.in-Some.is refl

returns-2 : tie.Need-returns-in-None
returns-2 c = search rules

pub nearer_spec : {M : Type 1} → statement M
nearer_spec = tie.close (tie.spec enum-known-s nearer-to-requires enum_told returns returns-2)
