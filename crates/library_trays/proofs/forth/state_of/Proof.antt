-- `state_of` meets its contract. Assumes nothing.
use mathlib.Core.Path.{refl, ◌∙◌}
use borrow.Author.Rules.{rules}
use Rattle.library_trays.proofs.forth.state_of.Statement.{statement}
use Rattle.library_trays.proofs.forth.state_of.Tie as tie

enum_told : tie.Need-enum_told-1
enum_told c = search rules

without-requires : tie.Need-without-requires
without-requires c κs = search rules

enum-known-g : tie.Need-enum_known-g
enum-known-g c = search rules

holding-requires : tie.Need-holding-requires
holding-requires c κs = search rules

returns : tie.Need-returns-in-Early
returns c = c.without.ensures ∙ rw c.in-Early.is refl

returns-2 : tie.Need-returns-in-Walking
returns-2 c = c.holding.ensures ∙ rw c.in-Walking.is refl

pub state_of_spec : {M : Type 1} → statement M
state_of_spec = tie.close (tie.spec enum_told without-requires enum-known-g holding-requires returns returns-2)
