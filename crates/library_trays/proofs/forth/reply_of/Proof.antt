-- `reply_of` meets its contract. Assumes nothing.
use borrow.Author.Rules.{rules}
use Rattle.library_trays.proofs.forth.reply_of.Statement.{statement}
use Rattle.library_trays.proofs.forth.reply_of.Tie as tie

enum-known-a : tie.Need-enum_known-a
enum-known-a c = search rules

told-requires : tie.Need-told-requires
told-requires c κs = search rules

enum-known-a-2 : tie.Need-enum_known-a-in-Handed-1
enum-known-a-2 c = search rules

told-requires-2 : tie.Need-told-requires-in-Handed
told-requires-2 c κs = search rules

enum_told : tie.Need-enum_told-1
enum_told c = search rules

told-requires-3 : tie.Need-told-requires-in-Done
told-requires-3 c κs = search rules

enum-known-a-3 : tie.Need-enum_known-a-in-Refused-1
enum-known-a-3 c = search rules

number-requires : tie.Need-number-requires
number-requires c κs = search rules

told-requires-4 : tie.Need-told-requires-in-Refused
told-requires-4 c κs = search rules

returns : tie.Need-returns-in-Taken
returns c = rw c.in-Taken.is c.told.ensures

returns-2 : tie.Need-returns-in-Handed
returns-2 c = rw c.in-Handed.is c.told-in-Handed.ensures

returns-3 : tie.Need-returns-in-Done
returns-3 c = rw c.in-Done.is c.told-in-Done.ensures

returns-4 : tie.Need-returns-in-Refused
returns-4 c = rw c.in-Refused.is (rw c.number.ensures at c.told-in-Refused.ensures)

pub reply_of_spec : {M : Type 1} → statement M
reply_of_spec =
    tie.close
    (tie.spec
    enum-known-a
    told-requires
    enum-known-a-2
    told-requires-2
    enum_told
    told-requires-3
    enum-known-a-3
    number-requires
    told-requires-4
    returns
    returns-2
    returns-3
    returns-4)
