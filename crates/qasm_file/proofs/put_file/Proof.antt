use native.Mathlib.Omega.{arith}
use lib.Dec.{lit≤}
use mathlib.Core.Path.{sym}
use lib.ListN.{length}
use lib.Seq.{length-take-le}
use borrow.Author.Tests.{lt-ltb, le-ltb}
use Rattle.list_lines.specs.Lines.{too_long_line}
use Rattle.text_puts.specs.Puts.{one}
use Rattle.qasm_file.specs.lemmas.Laws.{take-most}
use borrow.Author.Rules.{rules}
use Rattle.qasm_file.proofs.put_file.Statement.{statement}
use Rattle.qasm_file.proofs.put_file.Tie as tie

put-too-long-requires : tie.Need-put_too_long-requires
put-too-long-requires c κs = search rules

same_length : tie.Need-shape_of-out-then-bytes-gt65536
same_length c = search rules

returns : tie.Need-returns-then-bytes-gt65536
returns c =
    let s = c in
    let p = c in
    rw (lt-ltb 65536 (length c.args.bytes.now) (omega arith)) (one c.args.out.now 0 too_long_line c.put_too_long.new.out c.put_too_long.result 524335 (lit≤ tt) c.put_too_long.ensures)

end-of-requires : tie.Need-end_of-end-requires
end-of-requires c κs = search rules

slice-aggregate-put-word : tie.Need-slice_bounds-put_word-end
slice-aggregate-put-word c = sym (length-take-le c.end_of-end.result c.args.bytes.now (omega arith))

put-word-requires : tie.Need-put_word-requires
put-word-requires c κs = take-most c.end_of-end.result 65536 c.args.bytes.now (omega arith)

same-length-2 : tie.Need-shape_of-out
same-length-2 c = search rules

returns-2 : tie.Need-returns
returns-2 c =
    let s = c in
    rw (le-ltb 65536 (length c.args.bytes.now) (omega arith)) (rw c.end_of-end.ensures.0 at c.put_word.ensures)

pub put_file_spec : {M : Type 1} → statement M
put_file_spec =
    tie.close
    (tie.spec
    put-too-long-requires
    same_length
    returns
    end-of-requires
    slice-aggregate-put-word
    put-word-requires
    same-length-2
    returns-2)
