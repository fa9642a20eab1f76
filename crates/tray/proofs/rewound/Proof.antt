use mathlib.Core.List.{[]}
use mathlib.Core.Path.{ap₂}
use borrow.Author.Rules.{rules}
use Rattle.tray.specs.Session.{answer_of}
use Rattle.tray.proofs.rewound.Statement.{statement}
use Rattle.tray.proofs.rewound.Tie as tie

begun-requires : tie.Need-begun-requires
begun-requires c κs = search rules

returns : tie.Need-returns
returns c = ap₂ (λ a m. (answer_of [] a, m)) c.begun.ensures.1 c.begun.ensures.0

pub rewound_spec : {M : Type 1} → statement M
rewound_spec = tie.close (tie.spec begun-requires returns)
