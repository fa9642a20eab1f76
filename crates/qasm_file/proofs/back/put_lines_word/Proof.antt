use native.Mathlib.Omega.{arith}
use mathlib.Core.Path.{sym, ◌∙◌}
use lib.Seq.{length-take-le}
use Rattle.text_puts.specs.Puts.{weaken}
use Rattle.qasm_file.specs.lemmas.Laws.{take-most, read-wrote, read-refused}
use borrow.Author.Rules.{rules}
use Rattle.qasm_file.proofs.back.put_lines_word.Statement.{statement}
use Rattle.qasm_file.proofs.back.put_lines_word.Tie as tie

word-buffer-requires : tie.Need-word_buffer-word-requires
word-buffer-requires c κs = search rules

slice-aggregate-read : tie.Need-slice_bounds-read-end
slice-aggregate-read c = search rules

read-requires : tie.Need-read-a-requires
read-requires c κs = search rules

enum-known-a : tie.Need-enum_known-a
enum-known-a c = search rules

array-share-prefix-word : tie.Need-slice_bounds-word-end
array-share-prefix-word c = let w = c in let h = (read-wrote c.args.lines.now _ _ _ _ c.read-a.ensures c.in-Ok.is).2 in omega arith

slice-aggregate-put-word : tie.Need-slice_bounds-put_word-end
slice-aggregate-put-word c = let w = c in let h = (read-wrote c.args.lines.now _ _ _ _ c.read-a.ensures c.in-Ok.is).2 in sym (length-take-le _ _ (omega arith))

put-word-requires : tie.Need-put_word-requires
put-word-requires c κs = take-most c.in-Ok.n 65536 c.read-a.new.word (omega arith)

enum-known-a-2 : tie.Need-enum_known-a-in-Err-1
enum-known-a-2 c = search rules

number-requires : tie.Need-number-requires
number-requires c κs = search rules

put-refusal-requires : tie.Need-put_refusal-requires
put-refusal-requires c κs = search rules

same_length : tie.Need-shape_of-out-in-Ok
same_length c = search rules

returns : tie.Need-returns-in-Ok
returns c =
    let h = read-wrote c.args.lines.now _ _ _ _ c.read-a.ensures c.in-Ok.is in
    rw h.0 (rw h.1 at c.put_word.ensures)

same-length-2 : tie.Need-shape_of-out-in-Err
same-length-2 c = search rules

returns-2 : tie.Need-returns-in-Err
returns-2 c =
    let s = c in
    let w = c in
    let h = read-refused c.args.lines.now c.in-Err.f c.requires _ (let e = c.word_buffer-word.ensures in omega arith) (sym c.in-Err.is ∙ c.read-a.ensures.answers) in
    rw h.0 (weaken 65537 (omega arith) (rw (c.number.ensures ∙ h.1) at c.put_refusal.ensures))

pub put_lines_word_spec : {M : Type 1} → statement M
put_lines_word_spec =
    tie.close
    (tie.spec
    word-buffer-requires
    slice-aggregate-read
    read-requires
    enum-known-a
    array-share-prefix-word
    slice-aggregate-put-word
    put-word-requires
    enum-known-a-2
    number-requires
    put-refusal-requires
    same_length
    returns
    same-length-2
    returns-2)
