use mathlib.Core.Path.{◌∙◌, ap₂}
use Rattle.gate_theory.specs.Bits.{bare}
use borrow.Author.Rules.{rules}
use Rattle.gates.proofs.spell.is_bare.Statement.{statement}
use Rattle.gates.proofs.spell.is_bare.Tie as tie

parities-requires : tie.Need-parities-requires
parities-requires c κs = search rules

parities-requires-2 : tie.Need-parities-requires-2
parities-requires-2 c κs = search rules

bare-requires : tie.Need-bare-requires
bare-requires c κs = search rules

returns : tie.Need-returns
returns c = c.bare.ensures ∙ ap₂ bare c.parities.ensures c.parities-2.ensures

pub is_bare_spec : {M : Type 1} → statement M
is_bare_spec = tie.close (tie.spec parities-requires parities-requires-2 bare-requires returns)
