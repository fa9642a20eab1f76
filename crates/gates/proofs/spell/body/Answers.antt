use Rattle.std.specs.Prelude.{◌≡◌, ℕ, ◌+◌, ◌-◌}
use Rattle.std.proofs.Common.{subst, arith}
use Rattle.gate_theory.specs.Word.{syllable}
use Rattle.gates.specs.Written.{Adds}
use Rattle.gates.specs.Going.{steps}
use Rattle.gates.specs.Start.{Left, left-all, left-more, left-none}
use Rattle.gates.proofs.spell.body.Goals as goal

pub loop-init : goal.loop-init
loop-init c =
    let a = c.args in
    let e : a.r ≡ a.r - 0 = omega arith in
    subst (λ (n : ℕ). Left a.r a.s a.w n a.s a.w) e (left-all c.requires)

pub syllable-out-requires : goal.syllable-out-requires
syllable-out-requires c = omega (arith, c.loop.invariant.going.room)

pub next-x-requires : goal.next-x-requires
next-x-requires c = steps (omega arith) c.loop.invariant.going

pub loop-preserved : goal.loop-preserved
loop-preserved c =
    let l = c.loop in
    let a = c.args in
    let b = subst (λ b. Adds l.out (syllable b) c.syllable-out.result) c.is_bare.ensures c.syllable-out.ensures in
    let e : a.r - l.counter - 1 ≡ a.r - (l.counter + 1) = omega arith in
    rw c.next-x.ensures (rw (← e) (left-more l.invariant c.syllable-out.result (omega arith) b))

pub tail-requires : goal.tail-requires
tail-requires c = omega (arith, c.loop.invariant.going.room)

pub returns : goal.returns
returns c = left-none c.loop.invariant c.tail.result (omega arith) c.tail.ensures
