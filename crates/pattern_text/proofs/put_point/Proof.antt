use native.Mathlib.Omega.{arith}
use lib.Dec.{lit≤}
use lib.ListN.{length}
use mathlib.Core.List.{[], ◌∷◌}
use mir.Syntax.{w32}
use mir.Val.{SFits}
use mir.Facts.{to_z-of_z}
use Rattle.text_puts.specs.Puts.{one, join, weaken}
use borrow.Author.Rules.{rules}
use Rattle.pattern_text.proofs.put_point.Statement.{statement}
use Rattle.pattern_text.proofs.put_point.Tie as tie

fits-a : (s : tie.Start) → SFits w32 s.args.v.a
fits-a s = search rules

fits-b : (s : tie.Start) → SFits w32 s.args.v.b
fits-b s = search rules

fits-c : (s : tie.Start) → SFits w32 s.args.v.c
fits-c s = search rules

fits-d : (s : tie.Start) → SFits w32 s.args.v.d
fits-d s = search rules

put-bytes-requires : tie.Need-put_bytes-a-requires
put-bytes-requires c κs = search rules

put-coordinate-requires : tie.Need-put_coordinate-b-requires
put-coordinate-requires c κs = search rules

put-coordinate-requires-2 : tie.Need-put_coordinate-c-requires
put-coordinate-requires-2 c κs = search rules

put-coordinate-requires-3 : tie.Need-put_coordinate-d-requires
put-coordinate-requires-3 c κs = search rules

put-coordinate-requires-4 : tie.Need-put_coordinate-e-requires
put-coordinate-requires-4 c κs = search rules

put-byte-requires : tie.Need-put_byte-requires
put-byte-requires c κs = search rules

same_length : tie.Need-shape_of-out
same_length c = search rules

returns : tie.Need-returns
returns c =
    let z = c in
    let d4 = z in
    let d3 = d4 in
    let d2 = d3 in
    let d1 = d2 in
    let a = d1 in
    let s = a.before.before.before.before in
    weaken _ (omega arith) (join (one c.args.out.now c.args.at c.args.name.now c.put_bytes-a.new.out c.put_bytes-a.result (length c.args.name.now) (omega arith) c.put_bytes-a.ensures)
    (join (rw (to_z-of_z (fits-a c.before.before.before.before.before.before.before.before.before.before.before.before.before.before.before.before.before.before.before.before.before.before.before.before.before.before.before.before.before.before)) at c.put_coordinate-b.ensures)
    (join (rw (to_z-of_z (fits-b c.before.before.before.before.before.before.before.before.before.before.before.before.before.before.before.before.before.before.before.before.before.before.before.before.before.before.before.before.before.before)) at c.put_coordinate-c.ensures)
    (join (rw (to_z-of_z (fits-c c.before.before.before.before.before.before.before.before.before.before.before.before.before.before.before.before.before.before.before.before.before.before.before.before.before.before.before.before.before.before)) at c.put_coordinate-d.ensures)
    (join (rw (to_z-of_z (fits-d c.before.before.before.before.before.before.before.before.before.before.before.before.before.before.before.before.before.before.before.before.before.before.before.before.before.before.before.before.before.before)) at c.put_coordinate-e.ensures)
    (one c.put_coordinate-e.new.out c.put_coordinate-e.result (10 ∷ []) c.put_byte.new.out c.put_byte.result 1 (lit≤ tt) c.put_byte.ensures))))))

pub put_point_spec : {M : Type 1} → statement M
put_point_spec =
    tie.close
    (tie.spec
    put-bytes-requires
    put-coordinate-requires
    put-coordinate-requires-2
    put-coordinate-requires-3
    put-coordinate-requires-4
    put-byte-requires
    same_length
    returns)
