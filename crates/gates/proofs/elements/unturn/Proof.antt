use mathlib.Core.Path.{sym, ◌∙◌, ap}
use mathlib.Core.Bool.{cond}
use native.Mathlib.Omega.{arith}
use lib.IntN.{nat_abs}
use Rattle.gate_theory.specs.Points.{back}
use borrow.Author.Rules.{rules}
use Rattle.gates.proofs.elements.unturn.Statement.{statement}
use Rattle.gates.proofs.elements.unturn.Tie as tie

over-omega-requires : tie.Need-over_omega-requires
over-omega-requires c κs = search rules

over-omega-requires-2 : tie.Need-over_omega-requires-else-b
over-omega-requires-2 c κs = omega (arith, ap (λ v. nat_abs v.d) c.over_omega.ensures, c.requires.c)

returns : tie.Need-returns-then-b
returns c = search rules

returns-2 : tie.Need-returns-else-b
returns-2 c = c.over_omega-else-b.ensures ∙ ap back c.over_omega.ensures ∙ sym (ap (λ b. cond b c.args.t (back (back c.args.t))) c.if-b.false)

pub unturn_spec : {M : Type 1} → statement M
unturn_spec = tie.close (tie.spec over-omega-requires over-omega-requires-2 returns returns-2)
