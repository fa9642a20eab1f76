-- A part is the one line, the next or the third.
use Rattle.std.proofs.Common.{sym, ◌∙◌}
use Rattle.gate_qasm.proofs.Reading.{tested, line_first, line_second, line-third}
use Rattle.gate_qasm.proofs.lines.is_line.Goals as goal
use Rattle.gate_qasm.proofs.lines.is_line.Goals.{then-same, else-same}

pub returns-then-same-2 : goal.returns-then-same-2
returns-then-same-2 c = elim c.if-same.branch [
  | then-same w ↦ c.if-same-2.true ∙ line_first _ (sym (tested _ _ _ c.same.ensures) ∙ w.if-same.true)
  | else-same w ↦ c.if-same-2.true ∙ line_second _ (sym (tested _ _ _ c.same.ensures) ∙ w.if-same.false) (sym (tested _ _ _ w.same-else-same.ensures) ∙ sym w.value-is ∙ c.if-same-2.true)
]

pub returns-else-same-2 : goal.returns-else-same-2
returns-else-same-2 c = elim c.if-same.branch [
  | then-same w ↦ cc
  | else-same w ↦ tested _ _ _ c.same-else-same-2.ensures ∙ line-third _ (sym (tested _ _ _ c.same.ensures) ∙ w.if-same.false) (sym (tested _ _ _ w.same-else-same.ensures) ∙ sym w.value-is ∙ c.if-same-2.false)
]
