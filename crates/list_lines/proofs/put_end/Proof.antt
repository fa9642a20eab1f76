-- `put_end` meets its contract. Assumes nothing.
use borrow.Author.Rules.{rules}
use Rattle.list_lines.proofs.put_end.Statement.{statement}
use Rattle.list_lines.proofs.put_end.Tie as tie

slice-aggregate-end-line : tie.Need-slice_bounds-end_line-end
slice-aggregate-end-line c = search rules

end-line-requires : tie.Need-end_line-length-requires
end-line-requires c κs = search rules

array-share-prefix-line : tie.Need-slice_bounds-line-end
array-share-prefix-line c = search rules

slice-aggregate-put-bytes : tie.Need-slice_bounds-put_bytes-end
slice-aggregate-put-bytes c = search rules

put-bytes-requires : tie.Need-put_bytes-requires
put-bytes-requires c κs = search rules

same_length : tie.Need-shape_of-out
same_length c = search rules

returns : tie.Need-returns
returns c =
    let p = c in
    let e = p in
    rw e.end_line-length.ensures.0.text at p.put_bytes.ensures

pub put_end_spec : {M : Type 1} → statement M
put_end_spec =
    tie.close
    (tie.spec
    slice-aggregate-end-line
    end-line-requires
    array-share-prefix-line
    slice-aggregate-put-bytes
    put-bytes-requires
    same_length
    returns)
