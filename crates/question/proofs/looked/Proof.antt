use mathlib.Core.Path.{sym, ap}
use mathlib.Core.Bool.{not}
use Rattle.ranks.specs.Rest.{is_nil}
use borrow.Author.Rules.{rules}
use Rattle.question.proofs.looked.Statement.{statement}
use Rattle.question.proofs.looked.Tie as tie

glance-requires : tie.Need-glance-k-requires
glance-requires c κs = search rules

enum_told : tie.Need-enum_told-1
enum_told c = search rules

enum-told-2 : tie.Need-enum_told-in-Nothing
enum-told-2 c = search rules

enum-told-3 : tie.Need-enum_told-in-Tired
enum-told-3 c = search rules

search-requires : tie.Need-search-requires
search-requires c κs = search rules

returns : tie.Need-returns-in-Found
returns c = sym (ap not (c.glance-k.ensures.found c.in-Found.is))

returns-2 : tie.Need-returns-in-Nothing
returns-2 c = sym (ap not (ap is_nil (c.glance-k.ensures.nothing _ c.in-Nothing.is)))

returns-3 : tie.Need-returns-in-Tired
returns-3 c = search rules

pub looked_spec : {M : Type 1} → statement M
looked_spec =
    tie.close
    (tie.spec
    glance-requires
    enum_told
    enum-told-2
    enum-told-3
    search-requires
    returns
    returns-2
    returns-3)
