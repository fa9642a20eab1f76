use mathlib.Core.Path.{refl}
use native.Mathlib.Omega.{arith}
use Rattle.gate_theory.proofs.lemmas.Length.{narrow}
use Rattle.gates.specs.lemmas.Fit.{state}
use borrow.Author.Rules.{rules}
use Rattle.gates.proofs.spell.without_t.Statement.{statement}
use Rattle.gates.proofs.spell.without_t.Tie as tie

over-omega-requires : tie.Need-over_omega-t-requires
over-omega-requires c κs = let s = c.args.s in omega (arith, (narrow s.k s.u s.t c.requires.1 c.requires.0).1.d)

returns : tie.Need-returns
returns c = state refl refl c.over_omega-t.ensures refl

overflow_add-result : tie.Need-overflow_add-result
overflow_add-result c = search rules

pub without_t_spec : {M : Type 1} → statement M
without_t_spec = tie.close (tie.spec over-omega-requires overflow_add-result returns)
