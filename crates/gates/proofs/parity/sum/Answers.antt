use Rattle.std.specs.Prelude.{◌≡◌, refl, Bool, true, false, not}
use mathlib.Core.Bool.{beq}
use Rattle.gate_theory.specs.Bits.{xor}
use Rattle.gates.proofs.parity.sum.Goals as goal

differ : (a b : Bool) → not (beq a b) ≡ xor a b
differ true true = refl
differ true false = refl
differ false true = refl
differ false false = refl

pub returns : goal.returns
returns c =
    let p = c.args.p in
    let q = c.args.q in
    rw (differ p.a q.a, differ p.b q.b, differ p.c q.c, differ p.d q.d) refl
