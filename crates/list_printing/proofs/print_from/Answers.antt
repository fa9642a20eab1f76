use Rattle.std.proofs.Common.{rules, length, [], sym, ◌∙◌, arith}
use Rattle.list_states.specs.State.{state_of}
use Rattle.list_output.specs.lemmas.Joined.{piece_less}
use Rattle.list_printing.specs.Printed.{begun, go_on}
use Rattle.list_printing.proofs.print_from.Goals as goal

pub loop-out-init : goal.loop-out-init
loop-out-init g c = (sym c.output_buffer-space.ensures, record { taken = []; run = begun })

-- each piece leaves less to come
pub loop-out-smaller : goal.loop-out-smaller
loop-out-smaller g c =
    let h = c.loop-out.invariant.0 in
    rw c.next-p.ensures.next (piece_less (length c.loop-out.out) (state_of c.loop-out.o) (omega arith) (sym c.is_done.ensures ∙ c.loop-out-test.true))

pub loop-out-preserved : goal.loop-out-preserved
loop-out-preserved g c = (c.next-p.ensures.text.same ∙ c.loop-out.invariant.0, go_on c.loop-out.invariant.1 c.next-p.ensures c.print-sent.ensures (search rules))

pub returns : goal.returns
returns g c =
    let k = c.loop-out.invariant.1 in
    record { taken = k.taken; last = c.loop-out.o; run = k.run; over = λ e. sym c.is_done.ensures ∙ c.loop-out-test.false }
