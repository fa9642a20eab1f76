use mathlib.Core.Path.{sym, ◌∙◌, ap}
use Rattle.gate_theory.specs.Bits.{rest, uniform}
use Rattle.gates.specs.lemmas.Asked.{plain-odd, plain-not}
use borrow.Author.Rules.{rules}
use Rattle.gates.proofs.parity.plain.Statement.{statement}
use Rattle.gates.proofs.parity.plain.Tie as tie

sum-requires : tie.Need-sum-s-requires
sum-requires c κs = search rules

odd-requires : tie.Need-odd-requires
odd-requires c κs = search rules

rest-requires : tie.Need-rest-requires
rest-requires c κs = search rules

uniform-requires : tie.Need-uniform-requires
uniform-requires c κs = search rules

returns : tie.Need-returns-then-odd
returns c = c.rest.ensures ∙ ap rest c.sum-s.ensures ∙ sym (plain-odd c.args.p c.args.q (sym c.odd.ensures ∙ c.if-odd.true))

returns-2 : tie.Need-returns-else-odd
returns-2 c = c.uniform.ensures ∙ ap uniform c.sum-s.ensures ∙ sym (plain-not c.args.p c.args.q (sym c.odd.ensures ∙ c.if-odd.false))

pub plain_spec : {M : Type 1} → statement M
plain_spec =
    tie.close
    (tie.spec sum-requires odd-requires rest-requires uniform-requires returns returns-2)
