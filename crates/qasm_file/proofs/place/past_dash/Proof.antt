use native.Mathlib.Omega.{arith}
use mathlib.Core.Path.{sym, ap, ◌∙◌}
use mathlib.Core.List.{[], ◌∷◌}
use lib.ListN.{length, drop, length-drop}
use Rattle.gate_qasm.proofs.Reading.{tested}
use Rattle.qasm_file.specs.lemmas.Laws.{take_rest, dash_there, dash_not}
use borrow.Author.Rules.{rules}
use Rattle.qasm_file.proofs.place.past_dash.Statement.{statement}
use Rattle.qasm_file.proofs.place.past_dash.Tie as tie

sub_same : tie.Need-slice_bounds-same-count
sub_same c = search rules

part-same-start : tie.Need-slice_bounds-same-start
part-same-start c = search rules

part-same-end : tie.Need-slice_bounds-same-end
part-same-end c = search rules

same-requires : tie.Need-same-requires
same-requires c κs = search rules

add-result : tie.Need-overflow_add-result
add-result c = search rules

returns : tie.Need-returns-then-same
returns c =
    let s = c in
    let r = c in
    let e = rw (take_rest c.args.s.now c.args.at) at c.same.ensures in
    let n = ap length (e.0 c.if-same.true) in
    let d = length-drop c.args.at c.args.s.now in
    (dash_there c.args.s.now c.args.at (sym (tested (drop c.args.at c.args.s.now) (45 ∷ []) c.same.result e) ∙ c.if-same.true), omega arith)

returns-2 : tie.Need-returns-else-same
returns-2 c =
    let s = c in
    let r = c in
    let e = rw (take_rest c.args.s.now c.args.at) at c.same.ensures in
    (dash_not c.args.s.now c.args.at (sym (tested (drop c.args.at c.args.s.now) (45 ∷ []) c.same.result e) ∙ c.if-same.false), omega arith)

pub past_dash_spec : {M : Type 1} → statement M
past_dash_spec =
    tie.close (tie.spec sub_same part-same-start part-same-end same-requires add-result returns returns-2)
