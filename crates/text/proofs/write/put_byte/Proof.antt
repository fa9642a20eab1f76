-- `put_byte` meets its contract. Assumes nothing.
use Prim.Native.Nat.{◌+◌, ◌≤◌}
use mathlib.Core.Path.{◌∙◌}
use mathlib.Core.List.{[], ◌∷◌}
use native.Mathlib.Omega.{arith}
use borrow.Author.Rules.{rules}
use lib.ListN.{length}
use lib.Seq.{sets-eq}
use Rattle.text.proofs.Writing.{put-fits, put-not}
use Rattle.text.proofs.write.put_byte.Statement.{statement}
use Rattle.text.proofs.write.put_byte.Tie as tie

slice-write-out : tie.Need-bounds-out-at
slice-write-out c = search rules

add-result : tie.Need-overflow_add-result
add-result c = search rules

same_length : tie.Need-shape_of-out-then-at-out
same_length c = search rules

returns : tie.Need-returns-then-at-out
returns c =
    let xs = c.args.out.now in
    let at = c.args.at in
    let bs = c.args.b ∷ [] in
    let h : at + length bs ≤ length xs = omega arith in
    let w = put-fits xs at bs h in
    (sets-eq bs xs at h ∙ w.0, w.1)

returns-2 : tie.Need-returns
returns-2 c =
    put-not c.args.out.now c.args.at (c.args.b ∷ []) (omega arith)

pub put_byte_spec : {M : Type 1} → statement M
put_byte_spec = tie.close (tie.spec slice-write-out add-result same_length returns returns-2)
