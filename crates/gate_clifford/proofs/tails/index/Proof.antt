use mathlib.Core.Path.{sym, ◌∙◌, ap, ap₂}
use Prim.Native.Nat.{◌+◌, ◌-◌, ◌*◌, ◌/◌, ◌%◌}
use native.Mathlib.Omega.{arith}
use borrow.Author.Rules.{rules}
use Rattle.gate_clifford.specs.lemmas.Place.{index-diagonal, index-column, index-full}
use Rattle.gate_clifford.proofs.tails.index.Statement.{statement}
use Rattle.gate_clifford.proofs.tails.index.Tie as tie

log-requires : tie.Need-log-a-requires
log-requires c κs = search rules

log-requires-2 : tie.Need-log-b-requires
log-requires-2 c κs = search rules

mul-result : tie.Need-overflow_mul-result
mul-result c = search rules

add-result : tie.Need-overflow_add-result
add-result c = search rules

returns : tie.Need-returns-then-b-eq8
returns c =
    let a = c.args in
    let x = c.log-a.ensures.0 in
    (ap (λ n. n * 4 + a.m) x ∙ index-diagonal a.u a.t a.m (sym c.log-b.ensures.0 ∙ c.if-b-eq8.true), omega arith)

mul-result-2 : tie.Need-overflow_mul-result-then-a-eq8
mul-result-2 c = search rules

add-result-2 : tie.Need-overflow_add-result-then-a-eq8
add-result-2 c = search rules

add-result-3 : tie.Need-overflow_add-result-then-a-eq8-2
add-result-3 c = search rules

returns-2 : tie.Need-returns-then-a-eq8
returns-2 c =
    let a = c.args in
    let y = c.log-b.ensures.0 in
    let x = c.log-a.ensures.0 in
    (ap (λ n. 32 + n * 4 + a.m) y ∙ index-column a.u a.t a.m (omega arith) (omega arith), omega arith)

add-result-4 : tie.Need-overflow_add-result-2
add-result-4 c = search rules

sub-result : tie.Need-overflow_sub-result
sub-result c = search rules

mul-result-3 : tie.Need-overflow_mul-result-2
mul-result-3 c = search rules

add-result-5 : tie.Need-overflow_add-result-3
add-result-5 c = search rules

mul-result-4 : tie.Need-overflow_mul-result-3
mul-result-4 c = search rules

add-result-6 : tie.Need-overflow_add-result-4
add-result-6 c = search rules

add-result-7 : tie.Need-overflow_add-result-5
add-result-7 c = search rules

returns-3 : tie.Need-returns
returns-3 c =
    let a = c.args in
    let y = c.log-b.ensures.0 in
    let x = c.log-a.ensures.0 in
    (ap₂ (λ m n. 64 + (n + 8 - m) % 8 / 2 * 32 + m * 4 + a.m) x y ∙ index-full a.u a.t a.m (omega arith) (omega arith), omega arith)

pub index_spec : {M : Type 1} → statement M
index_spec =
    tie.close
    (tie.spec
    log-requires
    log-requires-2
    mul-result
    add-result
    returns
    mul-result-2
    add-result-2
    add-result-3
    returns-2
    add-result-4
    sub-result
    mul-result-3
    add-result-5
    mul-result-4
    add-result-6
    add-result-7
    returns-3)
