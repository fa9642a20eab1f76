use mathlib.Core.Path.{sym, ◌∙◌, ap}
use Rattle.gate_theory.specs.Bits.{uniform, none}
use Rattle.gates.specs.lemmas.Asked.{bare-odd, bare-not}
use borrow.Author.Rules.{rules}
use Rattle.gates.proofs.parity.bare.Statement.{statement}
use Rattle.gates.proofs.parity.bare.Tie as tie

sum-requires : tie.Need-sum-s-requires
sum-requires c κs = search rules

odd-requires : tie.Need-odd-requires
odd-requires c κs = search rules

uniform-requires : tie.Need-uniform-requires
uniform-requires c κs = search rules

none-requires : tie.Need-none-requires
none-requires c κs = search rules

returns : tie.Need-returns-then-odd
returns c = c.uniform.ensures ∙ ap uniform c.sum-s.ensures ∙ sym (bare-odd c.args.p c.args.q (sym c.odd.ensures ∙ c.if-odd.true))

returns-2 : tie.Need-returns-else-odd
returns-2 c = c.none.ensures ∙ ap none c.sum-s.ensures ∙ sym (bare-not c.args.p c.args.q (sym c.odd.ensures ∙ c.if-odd.false))

pub bare_spec : {M : Type 1} → statement M
bare_spec =
    tie.close
    (tie.spec sum-requires odd-requires uniform-requires none-requires returns returns-2)
