-- The lines before i decide where those behind it pass.
use Rattle.std.proofs.Common.{◌≡◌, ℕ, ◌+◌, ◌-◌, ◌*◌, List, take, drop, refl, sym, ap, ◌∙◌, arith}
use borrow.Author.Tests.{not-true, not-false}
use Rattle.gate_qasm.specs.Text.{is_line, line_at, are_lines}
use Rattle.gate_qasm.proofs.Reading.{lines_none, lines_not, lines_less}
use Rattle.gate_qasm.proofs.lines.are_lines.Goals as goal

-- the part that is tested is a line's
part : (text : List ℕ) (j : ℕ) → is_line (take (8 * j + 8 - 8 * j) (drop (8 * j) text)) ≡ is_line (line_at j text)
part text j = let e : 8 * j + 8 - 8 * j ≡ 8 = omega arith in ap (λ (n : ℕ). is_line (take n (drop (8 * j) text))) e

pub returns-then-not-is_line : goal.returns-then-not-is_line
returns-then-not-is_line c =
    let t = c.args.text.now in
    let i : ℕ = c.loop-i.i in
    sym (lines_not t i (omega arith) (sym (c.is_line.ensures ∙ part t (i - 1)) ∙ c.if-not-is_line.true)) ∙ c.loop-i.invariant

pub loop-i-preserved : goal.loop-i-preserved
loop-i-preserved c =
    let t = c.args.text.now in
    let i : ℕ = c.loop-i.i in
    sym (lines_less t i (omega arith) (sym (c.is_line.ensures ∙ part t (i - 1)) ∙ c.if-not-is_line.false)) ∙ c.loop-i.invariant

pub returns : goal.returns
returns c = sym (lines_none _ _ (omega arith)) ∙ c.loop-i.invariant
