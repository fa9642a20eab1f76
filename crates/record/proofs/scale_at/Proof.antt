use mathlib.Core.Path.{sym, ◌∙◌}
use Rattle.record.specs.Record.{scale_in, scale-out}
use borrow.Author.Rules.{rules}
use Rattle.record.proofs.scale_at.Statement.{statement}
use Rattle.record.proofs.scale_at.Tie as tie

shared-slice-read-k : tie.Need-bounds-s-0
shared-slice-read-k c = search rules

scale-requires : tie.Need-scale-requires
scale-requires c κs = search rules

returns : tie.Need-returns-then-scale
returns c = sym (scale_in c.args.s.now (sym c.scale.ensures ∙ c.if-scale.true))

returns-2 : tie.Need-returns-else-scale
returns-2 c = sym (scale-out c.args.s.now (sym c.scale.ensures ∙ c.if-scale.false))

pub scale_at_spec : {M : Type 1} → statement M
scale_at_spec = tie.close (tie.spec shared-slice-read-k scale-requires returns returns-2)
