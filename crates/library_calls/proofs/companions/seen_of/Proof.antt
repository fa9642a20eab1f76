-- `seen_of` meets its contract. Assumes nothing.
use borrow.Author.Rules.{rules}
use Rattle.library_calls.proofs.companions.seen_of.Statement.{statement}
use Rattle.library_calls.proofs.companions.seen_of.Tie as tie

enum-known-r : tie.Need-enum_known-r
enum-known-r c = search rules

sheet-seen-requires : tie.Need-sheet_seen-requires
sheet-seen-requires c κs = search rules

enum-known-r-2 : tie.Need-enum_known-r-in-Crew-1
enum-known-r-2 c = search rules

sheet-seen-requires-2 : tie.Need-sheet_seen-requires-in-Crew
sheet-seen-requires-2 c κs = search rules

enum-known-r-3 : tie.Need-enum_known-r-in-Refused-1
enum-known-r-3 c = search rules

number-requires : tie.Need-number-requires
number-requires c κs = search rules

sheet-seen-requires-3 : tie.Need-sheet_seen-requires-in-Refused
sheet-seen-requires-3 c κs = search rules

returns : tie.Need-returns-in-Desk
returns c = rw c.in-Desk.is c.sheet_seen.ensures

returns-2 : tie.Need-returns-in-Crew
returns-2 c = rw c.in-Crew.is c.sheet_seen-in-Crew.ensures

returns-3 : tie.Need-returns-in-Refused
returns-3 c = rw c.in-Refused.is (rw c.number.ensures at c.sheet_seen-in-Refused.ensures)

pub seen_of_spec : {M : Type 1} → statement M
seen_of_spec =
    tie.close
    (tie.spec
    enum-known-r
    sheet-seen-requires
    enum-known-r-2
    sheet-seen-requires-2
    enum-known-r-3
    number-requires
    sheet-seen-requires-3
    returns
    returns-2
    returns-3)
