-- `put_of` meets its contract. Assumes nothing.
use borrow.Author.Rules.{rules}
use Rattle.library_calls.proofs.companions.put_of.Statement.{statement}
use Rattle.library_calls.proofs.companions.put_of.Tie as tie

enum-known-w : tie.Need-enum_known-w
enum-known-w c = search rules

written-requires : tie.Need-written-requires
written-requires c κs = search rules

enum-known-w-2 : tie.Need-enum_known-w-in-Err-1
enum-known-w-2 c = search rules

number-requires : tie.Need-number-requires
number-requires c κs = search rules

written-requires-2 : tie.Need-written-requires-in-Err
written-requires-2 c κs = search rules

returns : tie.Need-returns-in-Ok
returns c = rw c.in-Ok.is c.written.ensures

returns-2 : tie.Need-returns-in-Err
returns-2 c = rw c.in-Err.is (rw c.number.ensures at c.written-in-Err.ensures)

pub put_of_spec : {M : Type 1} → statement M
put_of_spec =
    tie.close
    (tie.spec
    enum-known-w
    written-requires
    enum-known-w-2
    number-requires
    written-requires-2
    returns
    returns-2)
