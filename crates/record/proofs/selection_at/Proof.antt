use mathlib.Core.Path.{sym}
use Rattle.record.specs.Record.{selection-new, selection-all, selection-out}
use borrow.Author.Rules.{rules}
use Rattle.record.proofs.selection_at.Statement.{statement}
use Rattle.record.proofs.selection_at.Tie as tie

shared-slice-read-match : tie.Need-bounds-s-0
shared-slice-read-match c = search rules

returns : tie.Need-returns-in-0
returns c = sym (selection-new _ c.in-0.is)

returns-2 : tie.Need-returns-in-1
returns-2 c = sym (selection-all _ c.in-1.is)

returns-3 : tie.Need-returns-in_default
returns-3 c = let r = c.in_default.in_default-own.rest in sym (selection-out _ r.0.1 r.1)

pub selection_at_spec : {M : Type 1} → statement M
selection_at_spec = tie.close (tie.spec shared-slice-read-match returns returns-2 returns-3)
