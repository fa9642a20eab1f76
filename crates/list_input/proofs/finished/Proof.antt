use mathlib.Core.Path.{refl}
use borrow.Author.Rules.{rules}
use Rattle.list_input.proofs.finished.Statement.{statement}
use Rattle.list_input.proofs.finished.Tie as tie

enum_told : tie.Need-enum_told-1
enum_told c = search rules

enum-told-2 : tie.Need-enum_told-in-Walking
enum-told-2 c = search rules

returns : tie.Need-returns-in-Early
returns c = rw c.in-Early.is refl

returns-2 : tie.Need-returns-in-Walking
returns-2 c = rw c.in-Walking.is refl

pub finished_spec : {M : Type 1} → statement M
finished_spec = tie.close (tie.spec enum_told enum-told-2 returns returns-2)
