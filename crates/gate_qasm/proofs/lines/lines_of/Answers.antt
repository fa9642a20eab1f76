-- n lines are those of the letters from i on.
use Rattle.std.proofs.Common.{◌≡◌, ℕ, ◌+◌, ◌*◌, ◌≤◌, length, refl, sym, ap, ◌∙◌, arith, le_refl}
use Rattle.gate_qasm.proofs.Writing.{text_from, text-end, length_back}
use Rattle.gate_qasm.proofs.lines.lines_of.Goals as goal

pub loop-i-init : goal.loop-i-init
loop-i-init c = (omega arith, sym (ap length (text-end c.args.word.now _ (le_refl _))))

pub overflow_add-n : goal.overflow_add-n
overflow_add-n c = omega (arith, c.line_of-n.ensures.1)

pub loop-i-preserved : goal.loop-i-preserved
loop-i-preserved c =
    (omega (arith, c.line_of-n.ensures.1), omega (arith, c.line_of-n.ensures.0, length_back c.args.word.now c.loop-i.i (omega arith) (omega arith)))

pub returns : goal.returns
returns c =
    let e : c.loop-i.i ≡ 0 = omega arith in
    c.loop-i.invariant.1 ∙ ap (λ (i : ℕ). length (text_from c.args.word.now i)) e
