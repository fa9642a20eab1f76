use mathlib.Core.Path.{sym, ◌∙◌}
use borrow.Author.Rules.{rules}
use Rattle.tray_merge.proofs.floor.floor.Statement.{statement}
use Rattle.tray_merge.proofs.floor.floor.Tie as tie

is-accepted-requires : tie.Need-is_accepted-requires
is-accepted-requires c κs = search rules

raised-requires : tie.Need-raised-requires
raised-requires c κs = sym c.is_accepted.ensures ∙ c.if-is_accepted.true

returns : tie.Need-returns-then-is_accepted
returns c = search rules

returns-2 : tie.Need-returns
returns-2 c = search rules

pub floor_spec : {M : Type 1} → statement M
floor_spec = tie.close (tie.spec is-accepted-requires raised-requires returns returns-2)
