use mathlib.Core.List.{List}
use mathlib.Core.Path.{ap₂}
use Prim.Native.Nat.{◌+◌}
use native.Mathlib.Omega.{arith}
use borrow.Author.Rules.{rules}
use lib.ListN.{set}
use lib.IntN.{ℤ}
use mir.Facts.{to_z_pos}
use mir.Syntax.{w32}
use Rattle.tray_merge.proofs.put_five.Statement.{statement}
use Rattle.tray_merge.proofs.put_five.Tie as tie

put-requires : tie.Need-put-requires
put-requires c κs = search rules

cast-out : tie.Need-overflow_cast-out
cast-out c = search rules

add-t9 : tie.Need-overflow_add-k
add-t9 c = search rules

mul-t10 : tie.Need-offset_bounds-out-k
mul-t10 c = search rules

slice-set-from-out : tie.Need-bounds-out-k
slice-set-from-out c = search rules

same_length : tie.Need-shape_of-out
same_length c = search rules

returns : tie.Need-returns
returns c =
    let s = c in
    let p = c.requires in
    ap₂ (λ (l : List ℤ) (z : ℤ). set l (c.args.k + 4) z) c.put.ensures (to_z_pos w32 (omega arith))

pub put_five_spec : {M : Type 1} → statement M
put_five_spec =
    tie.close
    (tie.spec put-requires cast-out add-t9 mul-t10 slice-set-from-out same_length returns)
