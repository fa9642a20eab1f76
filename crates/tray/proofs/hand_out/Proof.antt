use mathlib.Core.Path.{refl}
use borrow.Author.Rules.{rules}
use Rattle.tray.proofs.hand_out.Statement.{statement}
use Rattle.tray.proofs.hand_out.Tie as tie

enum_told : tie.Need-enum_told-1
enum_told c = search rules

refused-requires : tie.Need-refused-requires
refused-requires c κs = search rules

enum-known-g : tie.Need-enum_known-g
enum-known-g c = search rules

from-spot-requires : tie.Need-from_spot-requires
from-spot-requires c κs = search rules

returns : tie.Need-returns-in-Early
returns c = rw (c.refused.ensures.0, c.refused.ensures.1, c.in-Early.is) (record { met = refl; slice = refl })

same_length : tie.Need-shape_of-out
same_length c = search rules

returns-2 : tie.Need-returns-in-Walking
returns-2 c = search rules

pub hand_out_spec : {M : Type 1} → statement M
hand_out_spec =
    tie.close
    (tie.spec
    enum_told
    refused-requires
    enum-known-g
    from-spot-requires
    returns
    same_length
    returns-2)
