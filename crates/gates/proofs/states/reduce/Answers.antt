use Rattle.std.specs.Prelude.{◌≡◌, ℕ, ◌-◌}
use Rattle.std.proofs.Common.{sym, ap, ◌∙◌, arith}
use Rattle.gate_theory.specs.Word.{reduced, reduced-zero, reduced-whole, reduced-not}
use Rattle.gates.proofs.states.reduce.Goals as goal

pub returns-in_default : goal.returns-in_default
returns-in_default c =
    let l = c.loop-e in
    reduced-not l.e l.x l.y (omega arith) (sym c.divide_root2.ensures ∙ c.in_default.is) ∙ l.invariant

pub loop-e-preserved : goal.loop-e-preserved
loop-e-preserved c =
    let l = c.loop-e in
    ap (reduced (l.e - 1) c.in-Some.z) c.over_root2-y.ensures
    ∙ reduced-whole l.e l.x l.y c.in-Some.z (omega arith) (sym c.divide_root2.ensures ∙ c.in-Some.is)
    ∙ l.invariant

pub returns : goal.returns
returns c =
    let l = c.loop-e in
    let e : 0 ≡ l.e = omega arith in
    sym (reduced-zero l.x l.y) ∙ ap (λ (n : ℕ). reduced n l.x l.y) e ∙ l.invariant
