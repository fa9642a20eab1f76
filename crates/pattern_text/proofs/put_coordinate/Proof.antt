use Rattle.text.proofs.Lengths.{signed-length}
use mathlib.Core.List.{[], ◌∷◌}
use Rattle.text.specs.Decimal.{signed_decimal}
use Rattle.text_puts.specs.Puts.{one, join}
use native.Mathlib.Nat.{lt_of_lt_of_le}
use mir.Syntax.{w32, w64}
use mir.Val.{SFits}
use mir.Facts.{to_z-of_z}
use lib.Dec.{lit≤}
use borrow.Author.Rules.{rules}
use Rattle.pattern_text.proofs.put_coordinate.Statement.{statement}
use Rattle.pattern_text.proofs.put_coordinate.Tie as tie

put-byte-requires : tie.Need-put_byte-a-requires
put-byte-requires c κs = search rules

cast-put-signed : tie.Need-overflow_cast-z
cast-put-signed c = let s = c in
    let h : SFits w32 c.args.z = search rules in
    rw (to_z-of_z h) (record { sfits = lt_of_lt_of_le h.sfits (lit≤ tt) })

put-signed-requires : tie.Need-put_signed-requires
put-signed-requires c κs = search rules

same_length : tie.Need-shape_of-out
same_length c = search rules

returns : tie.Need-returns
returns c =
    let p = c in
    let b = p in
    let s = b in
    let h : SFits w32 c.args.z = search rules in
    let g : SFits w64 c.args.z = record { sfits = lt_of_lt_of_le h.sfits (lit≤ tt) } in
    join
    (one c.args.out.now c.args.at (32 ∷ []) c.put_byte-a.new.out c.put_byte-a.result 1 (lit≤ tt) c.put_byte-a.ensures)
    (one c.put_byte-a.new.out c.put_byte-a.result (signed_decimal c.args.z) c.put_signed.new.out c.put_signed.result 20 (signed-length c.args.z g.sfits) (rw (to_z-of_z h, to_z-of_z g) at c.put_signed.ensures))

pub put_coordinate_spec : {M : Type 1} → statement M
put_coordinate_spec =
    tie.close (tie.spec put-byte-requires cast-put-signed put-signed-requires same_length returns)
