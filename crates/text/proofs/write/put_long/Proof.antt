-- `put_long` meets its contract. The digits that `io::decimal` makes are `decimal n`. Assumes nothing.
use borrow.Author.Rules.{rules}
use Rattle.text.proofs.Digits.{decimal-digits}
use Rattle.text.proofs.write.put_long.Statement.{statement}
use Rattle.text.proofs.write.put_long.Tie as tie

decimal-requires : tie.Need-decimal-k-requires
decimal-requires c κs = search rules

array-share-prefix-digits : tie.Need-slice_bounds-digits-end
array-share-prefix-digits c = search rules

slice-aggregate-put-bytes : tie.Need-slice_bounds-put_bytes-end
slice-aggregate-put-bytes c = search rules

put-bytes-requires : tie.Need-put_bytes-requires
put-bytes-requires c κs = search rules

same_length : tie.Need-shape_of-out
same_length c = search rules

returns : tie.Need-returns
returns c =
    let d = c in
    rw (decimal-digits d.decimal-k.result d.args.n d.decimal-k.ensures.1.0, ← d.decimal-k.ensures.1.1.0)
    c.put_bytes.ensures

pub put_long_spec : {M : Type 1} → statement M
put_long_spec =
    tie.close
    (tie.spec
    decimal-requires
    array-share-prefix-digits
    slice-aggregate-put-bytes
    put-bytes-requires
    same_length
    returns)
