use native.Mathlib.Omega.{arith}
use Rattle.qasm_file.specs.lemmas.Laws.{end_none, end-feed, end-other}
use borrow.Author.Rules.{rules}
use Rattle.qasm_file.proofs.place.end_of.Statement.{statement}
use Rattle.qasm_file.proofs.place.end_of.Tie as tie

returns : tie.Need-returns-then-n-eq0
returns c = (end_none c.args.s.now c.if-n-eq0.true, omega arith)

sub-if2 : tie.Need-overflow_sub-n
sub-if2 c = search rules

shared-slice-read-if2 : tie.Need-bounds-s-n
shared-slice-read-if2 c = search rules

sub-result : tie.Need-overflow_sub-result
sub-result c = search rules

returns-2 : tie.Need-returns-then-s-n-eq10
returns-2 c = (end-feed c.args.s.now c.if-s-n-eq10.true, omega arith)

returns-3 : tie.Need-returns-else-s-n-eq10
returns-3 c = (end-other c.args.s.now c.if-s-n-eq10.false, omega arith)

pub end_of_spec : {M : Type 1} → statement M
end_of_spec =
    tie.close (tie.spec returns sub-if2 shared-slice-read-if2 sub-result returns-2 returns-3)
