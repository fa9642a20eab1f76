-- `put_refusal` meets its contract. Assumes nothing.
use borrow.Author.Rules.{rules}
use Rattle.list_lines.proofs.put_refusal.Statement.{statement}
use Rattle.list_lines.proofs.put_refusal.Tie as tie

slice-aggregate-refusal-line : tie.Need-slice_bounds-refusal_line-end
slice-aggregate-refusal-line c = search rules

refusal-line-requires : tie.Need-refusal_line-length-requires
refusal-line-requires c κs = search rules

array-share-prefix-line : tie.Need-slice_bounds-line-end
array-share-prefix-line c = search rules

slice-aggregate-put-bytes : tie.Need-slice_bounds-put_bytes-end
slice-aggregate-put-bytes c = search rules

put-bytes-requires : tie.Need-put_bytes-requires
put-bytes-requires c κs = search rules

same_length : tie.Need-shape_of-out
same_length c = search rules

returns : tie.Need-returns
returns c =
    let p = c in
    let e = p in
    rw e.refusal_line-length.ensures.0.text at p.put_bytes.ensures

pub put_refusal_spec : {M : Type 1} → statement M
put_refusal_spec =
    tie.close
    (tie.spec
    slice-aggregate-refusal-line
    refusal-line-requires
    array-share-prefix-line
    slice-aggregate-put-bytes
    put-bytes-requires
    same_length
    returns)
