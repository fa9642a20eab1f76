use native.Mathlib.Omega.{arith}
use borrow.Author.Rules.{rules}
use Rattle.pattern_sheet.proofs.Puts.{put_four, past-number}
use Rattle.pattern_sheet.proofs.put_point.Statement.{statement}
use Rattle.pattern_sheet.proofs.put_point.Tie as tie

put-number-requires : tie.Need-put_number-a-requires
put-number-requires c κs = search rules

put-number-requires-2 : tie.Need-put_number-b-requires
put-number-requires-2 c κs =
    let p = c in
    let s = c in
    omega (arith, past-number _ _ _ _ _ c.put_number-a.ensures, c.requires)

put-number-requires-3 : tie.Need-put_number-c-requires
put-number-requires-3 c κs =
    let s = c in
    omega (arith, past-number _ _ _ _ _ c.put_number-a.ensures, past-number _ _ _ _ _ c.put_number-b.ensures, c.requires)

put-number-requires-4 : tie.Need-put_number-requires
put-number-requires-4 c κs =
    let s = c in
    omega (arith, past-number _ _ _ _ _ c.put_number-a.ensures, past-number _ _ _ _ _ c.put_number-b.ensures, past-number _ _ _ _ _ c.put_number-c.ensures, c.requires)

same_length : tie.Need-shape_of-out
same_length c = search rules

returns : tie.Need-returns
returns c =
    let s = c in
    put_four c.args.out.now c.args.at c.args.p (search rules) (search rules) (search rules) (search rules) c.put_number-a.ensures c.put_number-b.ensures c.put_number-c.ensures c.put_number.ensures

pub put_point_spec : {M : Type 1} → statement M
put_point_spec =
    tie.close
    (tie.spec
    put-number-requires
    put-number-requires-2
    put-number-requires-3
    put-number-requires-4
    same_length
    returns)
