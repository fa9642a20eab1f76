-- Each byte of the part is handed to the machine once and in order.
use Rattle.std.proofs.Common.{ℕ, ◌≡◌, ◌+◌, [], arith}
use Rattle.text_input_lines.specs.Gathered.{begun}
use Rattle.text_input_lines.specs.Fed.{feed}
use Rattle.console.proofs.answer_all.Goals as goal

pub loop-i-init : goal.loop-i-init
loop-i-init g c = (omega arith, record { said = []; run = begun })

-- an answer that was not taken ends it
pub returns-then-not-a : goal.returns-then-not-a
returns-then-not-a g c =
    let f = feed c.loop-i-test.true c.loop-i.invariant.1 c.take-s.ensures in
    record { count = c.loop-i.i + 1; said = f.said; run = f.run; all = λ e. absurd (let z : ◌≡◌ {A = ℕ} 0 1 = cc in omega arith) }

pub loop-i-preserved-else-not-a : goal.loop-i-preserved-else-not-a
loop-i-preserved-else-not-a g c = (omega (arith, c.loop-i-test.true), feed c.loop-i-test.true c.loop-i.invariant.1 c.take-s.ensures)

pub loop-i-preserved : goal.loop-i-preserved
loop-i-preserved g c = (omega (arith, c.loop-i-test.true), feed c.loop-i-test.true c.loop-i.invariant.1 c.take-s.ensures)
