use Prim.Native.Nat.{◌+◌, ◌-◌}
use lib.ListN.{take, drop}
use native.Mathlib.Omega.{arith}
use mathlib.Core.Path.{◌≡◌, sym, ◌∙◌}
use mathlib.Core.List.{[], ◌∷◌}
use Rattle.gate_qasm.proofs.Reading.{tested}
use Rattle.qasm_file.specs.lemmas.Laws.{word-short, word-there, word-not}
use borrow.Author.Rules.{rules}
use Rattle.qasm_file.proofs.place.word_start.Statement.{statement}
use Rattle.qasm_file.proofs.place.word_start.Tie as tie

sub-if1 : tie.Need-overflow_sub-s
sub-if1 c = search rules

returns : tie.Need-returns-then-s-at-lt5
returns c = (word-short c.args.s.now c.args.at (omega arith) c.if-s-at-lt5.true, omega arith)

add-end : tie.Need-overflow_add-end
add-end c = search rules

sub_same : tie.Need-slice_bounds-same-count
sub_same c = search rules

part-same-start : tie.Need-slice_bounds-same-start
part-same-start c = search rules

part-same-end : tie.Need-slice_bounds-same-end
part-same-end c = search rules

same-requires : tie.Need-same-requires
same-requires c κs = search rules

returns-2 : tie.Need-returns-then-same
returns-2 c =
    let s = c in
    let r = c in
    let e : c.args.at + 5 - c.args.at ≡ 5 = omega arith in
    (word-there c.args.s.now c.args.at (sym (tested (take 5 (drop c.args.at c.args.s.now)) (119 ∷ 111 ∷ 114 ∷ 100 ∷ 32 ∷ []) c.same.result (rw e at c.same.ensures)) ∙ c.if-same.true), omega arith)

returns-3 : tie.Need-returns-else-same
returns-3 c =
    let s = c in
    let r = c in
    let e : c.args.at + 5 - c.args.at ≡ 5 = omega arith in
    (word-not c.args.s.now c.args.at (sym (tested (take 5 (drop c.args.at c.args.s.now)) (119 ∷ 111 ∷ 114 ∷ 100 ∷ 32 ∷ []) c.same.result (rw e at c.same.ensures)) ∙ c.if-same.false), omega arith)

pub word_start_spec : {M : Type 1} → statement M
word_start_spec =
    tie.close (tie.spec sub-if1 returns add-end sub_same part-same-start part-same-end same-requires returns-2 returns-3)
