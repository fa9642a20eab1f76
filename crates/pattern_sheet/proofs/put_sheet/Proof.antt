use mathlib.Core.Path.{refl}
use native.Mathlib.Omega.{arith}
use borrow.Author.Rules.{rules}
use Rattle.pattern_sheet.proofs.Puts.{put_all, past-point, past_two}
use Rattle.pattern_sheet.proofs.put_sheet.Statement.{statement}
use Rattle.pattern_sheet.proofs.put_sheet.Tie as tie

slice-aggregate-put-bytes : tie.Need-slice_bounds-put_bytes-end
slice-aggregate-put-bytes c = search rules

put-bytes-requires : tie.Need-put_bytes-a-requires
put-bytes-requires c κs = search rules

put-point-requires : tie.Need-put_point-b-requires
put-point-requires c κs =
    let s = c in
    omega (arith, past_two _ _ _ _ _ c.requires c.put_bytes-a.ensures, c.requires)

put-point-requires-2 : tie.Need-put_point-c-requires
put-point-requires-2 c κs =
    let s = c in
    omega (arith, past_two _ _ _ _ _ c.requires c.put_bytes-a.ensures, past-point _ _ _ _ _ c.put_point-b.ensures, c.requires)

u32-bytes-requires : tie.Need-u32_bytes-requires
u32-bytes-requires c κs = search rules

slice-aggregate-put-bytes-2 : tie.Need-slice_bounds-put_bytes-end-2
slice-aggregate-put-bytes-2 c = search rules

put-bytes-requires-2 : tie.Need-put_bytes-requires
put-bytes-requires-2 c κs = search rules

same_length : tie.Need-shape_of-out
same_length c = search rules

returns : tie.Need-returns
returns c =
    let s = c in
    put_all c.args.out.now c.args.sheet c.requires refl c.put_bytes-a.ensures c.put_point-b.ensures c.put_point-c.ensures c.u32_bytes.ensures c.put_bytes.ensures

pub put_sheet_spec : {M : Type 1} → statement M
put_sheet_spec =
    tie.close
    (tie.spec
    slice-aggregate-put-bytes
    put-bytes-requires
    put-point-requires
    put-point-requires-2
    u32-bytes-requires
    slice-aggregate-put-bytes-2
    put-bytes-requires-2
    same_length
    returns)
