-- The line that goes up to i begins where the last line does.
use Rattle.std.proofs.Common.{◌≡◌, ◌+◌, ◌-◌, sym, ◌∙◌, arith}
use Rattle.qasm_file.specs.lemmas.Laws.{line-here, line_before, line_first}
use Rattle.qasm_file.proofs.place.line_start.Goals as goal

pub returns-then-s-i-eq10 : goal.returns-then-s-i-eq10
returns-then-s-i-eq10 c =
    let e : c.loop-i.i - 1 + 1 ≡ c.loop-i.i = omega arith in
    (e ∙ sym (line-here c.args.s.now c.loop-i.i (omega arith) c.if-s-i-eq10.true) ∙ c.loop-i.invariant, omega arith)

pub loop-i-preserved : goal.loop-i-preserved
loop-i-preserved c = sym (line_before c.args.s.now c.loop-i.i (omega arith) c.if-s-i-eq10.false) ∙ c.loop-i.invariant

pub returns : goal.returns
returns c = (sym (line_first c.args.s.now c.loop-i.i (omega arith)) ∙ c.loop-i.invariant, omega arith)
