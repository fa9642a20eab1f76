-- `scale` meets its contract. Assumes nothing.
use mathlib.Core.Path.{refl}
use borrow.Author.Rules.{rules}
use Rattle.list_pages.proofs.page.scale.Statement.{statement}
use Rattle.list_pages.proofs.page.scale.Tie as tie

enum_told : tie.Need-enum_told-1
enum_told c = search rules

enum-known-g : tie.Need-enum_known-g
enum-known-g c = search rules

returns : tie.Need-returns-in-Early
returns c = rw c.in-Early.is refl

returns-2 : tie.Need-returns-in-Walking
returns-2 c = rw c.in-Walking.is refl

pub scale_spec : {M : Type 1} → statement M
scale_spec = tie.close (tie.spec enum_told enum-known-g returns returns-2)
