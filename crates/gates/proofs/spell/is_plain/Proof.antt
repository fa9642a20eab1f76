use mathlib.Core.Path.{◌∙◌, ap₂}
use native.Mathlib.Omega.{arith}
use Rattle.gate_theory.specs.Bits.{plain}
use Rattle.gates.specs.Going.{plain-none, plain-some}
use borrow.Author.Rules.{rules}
use Rattle.gates.proofs.spell.is_plain.Statement.{statement}
use Rattle.gates.proofs.spell.is_plain.Tie as tie

returns : tie.Need-returns-then-s-eq0
returns c = plain-none c.args.s (omega arith)

parities-requires : tie.Need-parities-requires
parities-requires c κs = search rules

parities-requires-2 : tie.Need-parities-requires-2
parities-requires-2 c κs = search rules

plain-requires : tie.Need-plain-requires
plain-requires c κs = search rules

returns-2 : tie.Need-returns
returns-2 c = c.plain.ensures ∙ ap₂ plain c.parities.ensures c.parities-2.ensures ∙ plain-some c.args.s (omega arith)

pub is_plain_spec : {M : Type 1} → statement M
is_plain_spec =
    tie.close (tie.spec returns parities-requires parities-requires-2 plain-requires returns-2)
