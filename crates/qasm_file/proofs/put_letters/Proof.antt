use native.Mathlib.Omega.{arith}
use mathlib.Core.Path.{sym, ◌∙◌}
use lib.Seq.{length-take-le}
use Rattle.text_puts.specs.Puts.{weaken}
use Rattle.qasm_file.specs.lemmas.Laws.{take-most, write_wrote, write_refused}
use borrow.Author.Rules.{rules}
use Rattle.qasm_file.proofs.put_letters.Statement.{statement}
use Rattle.qasm_file.proofs.put_letters.Tie as tie

lines-buffer-requires : tie.Need-lines_buffer-lines-requires
lines-buffer-requires c κs = search rules

slice-aggregate-write : tie.Need-slice_bounds-write-end
slice-aggregate-write c = search rules

write-requires : tie.Need-write-a-requires
write-requires c κs = search rules

enum-known-a : tie.Need-enum_known-a
enum-known-a c = search rules

array-share-prefix-lines : tie.Need-slice_bounds-lines-end
array-share-prefix-lines c = let w = c in let h = (write_wrote c.args.word.now _ _ _ _ c.write-a.ensures c.in-Ok.is).2 in omega arith

slice-aggregate-put-lines : tie.Need-slice_bounds-put_lines-end
slice-aggregate-put-lines c = let w = c in let h = (write_wrote c.args.word.now _ _ _ _ c.write-a.ensures c.in-Ok.is).2 in sym (length-take-le _ _ (omega arith))

put-lines-requires : tie.Need-put_lines-requires
put-lines-requires c κs = take-most c.in-Ok.n 524288 c.write-a.new.text (omega arith)

enum-known-a-2 : tie.Need-enum_known-a-in-Err-1
enum-known-a-2 c = search rules

number-requires : tie.Need-number-requires
number-requires c κs = search rules

put-refusal-requires : tie.Need-put_refusal-requires
put-refusal-requires c κs = search rules

same_length : tie.Need-shape_of-out-in-Ok
same_length c = search rules

returns : tie.Need-returns-in-Ok
returns c =
    let h = write_wrote c.args.word.now _ _ _ _ c.write-a.ensures c.in-Ok.is in
    rw h.0 (rw h.1 at c.put_lines.ensures)

same-length-2 : tie.Need-shape_of-out-in-Err
same-length-2 c = search rules

returns-2 : tie.Need-returns-in-Err
returns-2 c =
    let s = c in
    let w = c in
    let h = write_refused c.args.word.now c.in-Err.f c.requires _ (let e = c.lines_buffer-lines.ensures in omega arith) (sym c.in-Err.is ∙ c.write-a.ensures.answers) in
    rw h.0 (weaken 524335 (omega arith) (rw (c.number.ensures ∙ h.1) at c.put_refusal.ensures))

pub put_letters_spec : {M : Type 1} → statement M
put_letters_spec =
    tie.close
    (tie.spec
    lines-buffer-requires
    slice-aggregate-write
    write-requires
    enum-known-a
    array-share-prefix-lines
    slice-aggregate-put-lines
    put-lines-requires
    enum-known-a-2
    number-requires
    put-refusal-requires
    same_length
    returns
    same-length-2
    returns-2)
