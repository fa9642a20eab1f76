use mathlib.Core.Path.{sym, ◌∙◌}
use mathlib.Core.Bool.{false≢true}
use native.Mathlib.Omega.{arith}
use Rattle.integers.specs.lemmas.Booleans.{both_of}
use Rattle.line_rows.specs.Row as Row
use Rattle.line_steps.specs.Walk.{near, solved-row}
use Rattle.line_steps.proofs.pair_rows.is_pair.Statement.{statement}
use Rattle.line_steps.proofs.pair_rows.is_pair.Tie as tie

within : (s : tie.Start) → Row.Near s.args.f s.args.g 10000 s.args.p.a s.args.p.b
within s = let n = s.requires.2 in let a = n.a_in in let b = n.b-in in near _ _ 10000 _ _ s.requires.0 s.requires.1 (omega arith) (omega arith) (omega arith)

upper-requires : tie.Need-upper-requires
upper-requires c κs = within c

lower-requires : tie.Need-lower-requires
lower-requires c κs = within c.before.before

returns : tie.Need-returns-then-upper
returns c h = solved-row _ _ _ _ ∙ both_of (sym c.lower.ensures ∙ h) (sym c.upper.ensures ∙ c.if-upper.true)

returns-2 : tie.Need-returns-else-upper
returns-2 c h = absurd (false≢true (sym c.if-upper.false ∙ h))

pub is_pair_spec : {M : Type 1} → statement M
is_pair_spec = tie.close (tie.spec upper-requires lower-requires returns returns-2)
