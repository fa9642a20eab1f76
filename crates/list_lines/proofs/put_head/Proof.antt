-- `put_head` meets its contract: three texts, each after the one before. Assumes nothing.
use Prim.Native.Nat.{◌≤◌}
use mathlib.Core.List.{◌++◌}
use native.Mathlib.Omega.{arith}
use mir.Syntax.{w32}
use mir.Val.{SFits}
use mir.Facts.{to_z-of_z}
use borrow.Author.Rules.{rules}
use Rattle.text.specs.Append.{Appended, append-more}
use Rattle.list_lines.specs.Lines.{coordinate_text, head_text}
use Rattle.list_lines.proofs.put_head.Statement.{statement}
use Rattle.list_lines.proofs.put_head.Tie as tie

put-coordinate-requires : tie.Need-put_coordinate-b-requires
put-coordinate-requires c κs = search rules

put-coordinate-requires-2 : tie.Need-put_coordinate-c-requires
put-coordinate-requires-2 c κs = search rules

put-coordinate-requires-3 : tie.Need-put_coordinate-requires
put-coordinate-requires-3 c κs = search rules

same_length : tie.Need-shape_of-head
same_length c = search rules

returns : tie.Need-returns
unfolding head_text
returns c =
    let z3 = c in
    let z2 = z3 in
    let z1 = z2 in
    let s = z1 in
    let v = s.args.v in
    let xs = s.args.head.now in
    let ha : SFits w32 v.a = search rules in
    let hb : SFits w32 v.b = search rules in
    let hc : SFits w32 v.c = search rules in
    let m1 = z1.put_coordinate-b.new.out in
    let m2 = z2.put_coordinate-c.new.out in
    let m3 = z3.put_coordinate.new.out in
    let a1 : Appended xs 0 (coordinate_text v.a) m1 z1.put_coordinate-b.result = rw (to_z-of_z ha) at z1.put_coordinate-b.ensures.0 in
    let a2 = append-more xs 0 (coordinate_text v.a) (coordinate_text v.b) m1 m2 z1.put_coordinate-b.result z2.put_coordinate-c.result a1 (rw (to_z-of_z hb) at z2.put_coordinate-c.ensures.0) in
    let a3 = append-more xs 0 (coordinate_text v.a ++ coordinate_text v.b) (coordinate_text v.c) m2 m3 z2.put_coordinate-c.result z3.put_coordinate.result a2 (rw (to_z-of_z hc) at z3.put_coordinate.ensures.0) in
    let b1 = z1.put_coordinate-b.ensures.1 in
    let b2 = z2.put_coordinate-c.ensures.1 in
    let b3 = z3.put_coordinate.ensures.1 in
    (a3, omega arith)

pub put_head_spec : {M : Type 1} → statement M
put_head_spec =
    tie.close
    (tie.spec
    put-coordinate-requires
    put-coordinate-requires-2
    put-coordinate-requires-3
    same_length
    returns)
