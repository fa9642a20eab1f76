use mathlib.Core.Path.{refl, ◌∙◌}
use borrow.Author.Rules.{rules}
use Rattle.tray.proofs.rewind.Statement.{statement}
use Rattle.tray.proofs.rewind.Tie as tie

enum_told : tie.Need-enum_told-1
enum_told c = search rules

refused-requires : tie.Need-refused-requires
refused-requires c κs = search rules

enum-told-2 : tie.Need-enum_told-in-Walking
enum-told-2 c = search rules

rewound-requires : tie.Need-rewound-requires
rewound-requires c κs = search rules

returns : tie.Need-returns-in-Early
returns c = rw (c.refused.ensures.0, c.refused.ensures.1, c.in-Early.is) refl

returns-2 : tie.Need-returns-in-Walking
returns-2 c = c.rewound.ensures ∙ rw c.in-Walking.is refl

pub rewind_spec : {M : Type 1} → statement M
rewind_spec =
    tie.close (tie.spec enum_told refused-requires enum-told-2 rewound-requires returns returns-2)
