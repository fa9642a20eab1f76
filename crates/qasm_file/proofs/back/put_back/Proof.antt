use native.Mathlib.Omega.{arith}
use lib.Dec.{lit≤}
use mathlib.Core.Path.{sym, ◌∙◌}
use borrow.Author.Tests.{lt-ltb, le-ltb}
use lib.ListN.{length}
use Rattle.list_lines.specs.Lines.{too_long_line}
use Rattle.text_puts.specs.Puts.{one, weaken}
use Rattle.qasm_file.specs.lemmas.Laws.{take_rest}
use borrow.Author.Rules.{rules}
use Rattle.qasm_file.proofs.back.put_back.Statement.{statement}
use Rattle.qasm_file.proofs.back.put_back.Tie as tie

put-too-long-requires : tie.Need-put_too_long-requires
put-too-long-requires c κs = search rules

same_length : tie.Need-shape_of-out-then-bytes-gt524335
same_length c = search rules

returns : tie.Need-returns-then-bytes-gt524335
returns c =
    let s = c in
    let p = c in
    rw (lt-ltb 524335 (length c.args.bytes.now) (omega arith)) (one c.args.out.now 0 too_long_line c.put_too_long.new.out c.put_too_long.result 65537 (lit≤ tt) c.put_too_long.ensures)

begins-requires : tie.Need-begins-requires
begins-requires c κs = search rules

put-refusal-requires : tie.Need-put_refusal-requires
put-refusal-requires c κs = search rules

same-length-2 : tie.Need-shape_of-out-then-not-begins
same-length-2 c = search rules

returns-2 : tie.Need-returns-then-not-begins
returns-2 c =
    let s = c in
    let b = c in
    rw (le-ltb 524335 (length c.args.bytes.now) (omega arith), sym c.begins.ensures.0 ∙ c.if-not-begins.true) (weaken 65537 (omega arith) c.put_refusal.ensures)

sub-put-lines-word : tie.Need-slice_bounds-put_lines_word-count
sub-put-lines-word c = let h = c.begins.ensures.1 (c.if-not-begins.false) in omega arith

part-put-lines-word-start : tie.Need-slice_bounds-put_lines_word-start
part-put-lines-word-start c = let h = c.begins.ensures.1 (c.if-not-begins.false) in omega arith

part-put-lines-word-end : tie.Need-slice_bounds-put_lines_word-end
part-put-lines-word-end c = search rules

put-lines-word-requires : tie.Need-put_lines_word-requires
put-lines-word-requires c κs = search rules

same-length-3 : tie.Need-shape_of-out
same-length-3 c = search rules

returns-3 : tie.Need-returns
returns-3 c =
    let s = c in
    let b = c in
    rw (le-ltb 524335 (length c.args.bytes.now) (omega arith), sym c.begins.ensures.0 ∙ c.if-not-begins.false) (rw (take_rest c.args.bytes.now 47) at c.put_lines_word.ensures)

pub put_back_spec : {M : Type 1} → statement M
put_back_spec =
    tie.close
    (tie.spec
    put-too-long-requires
    same_length
    returns
    begins-requires
    put-refusal-requires
    same-length-2
    returns-2
    sub-put-lines-word
    part-put-lines-word-start
    part-put-lines-word-end
    put-lines-word-requires
    same-length-3
    returns-3)
