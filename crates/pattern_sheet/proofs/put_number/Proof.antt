use mir.Facts.{to_z-of_z}
use borrow.Author.Rules.{rules}
use Rattle.pattern_sheet.proofs.Puts.{put_one}
use Rattle.pattern_sheet.proofs.put_number.Statement.{statement}
use Rattle.pattern_sheet.proofs.put_number.Tie as tie

i32-bytes-requires : tie.Need-i32_bytes-requires
i32-bytes-requires c κs = search rules

slice-aggregate-put-bytes : tie.Need-slice_bounds-put_bytes-end
slice-aggregate-put-bytes c = search rules

put-bytes-requires : tie.Need-put_bytes-requires
put-bytes-requires c κs = search rules

same_length : tie.Need-shape_of-out
same_length c = search rules

returns : tie.Need-returns
returns c =
    let s = c in
    let p = c in
    put_one c.args.out.now c.args.at c.args.x _ _ (to_z-of_z c.ranges.x) c.i32_bytes.ensures c.requires c.put_bytes.ensures

pub put_number_spec : {M : Type 1} → statement M
put_number_spec =
    tie.close
    (tie.spec i32-bytes-requires slice-aggregate-put-bytes put-bytes-requires same_length returns)
