-- `wrote_of` meets its contract. Assumes nothing.
use borrow.Author.Rules.{rules}
use Rattle.library_calls.proofs.companions.wrote_of.Statement.{statement}
use Rattle.library_calls.proofs.companions.wrote_of.Tie as tie

enum-known-a : tie.Need-enum_known-a
enum-known-a c = search rules

written-requires : tie.Need-written-requires
written-requires c κs = search rules

enum-known-a-2 : tie.Need-enum_known-a-in-Err-1
enum-known-a-2 c = search rules

number-requires : tie.Need-number-requires
number-requires c κs = search rules

written-requires-2 : tie.Need-written-requires-in-Err
written-requires-2 c κs = search rules

returns : tie.Need-returns-in-Ok
returns c = rw c.in-Ok.is c.written.ensures

returns-2 : tie.Need-returns-in-Err
returns-2 c = rw c.in-Err.is (rw c.number.ensures at c.written-in-Err.ensures)

pub wrote_of_spec : {M : Type 1} → statement M
wrote_of_spec =
    tie.close
    (tie.spec
    enum-known-a
    written-requires
    enum-known-a-2
    number-requires
    written-requires-2
    returns
    returns-2)
