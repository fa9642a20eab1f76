-- `put_coordinate` meets its contract. Assumes nothing.
use Prim.Native.Nat.{suc, ◌+◌, ◌<◌, ◌≤◌, ◌^◌}
use native.Mathlib.Nat.{lt_of_lt_of_le}
use native.Mathlib.Omega.{arith}
use mir.Syntax.{w32, w64}
use mir.Val.{SFits}
use mir.Facts.{to_z-of_z}
use lib.Dec.{lit≤}
use lib.Signed.{mag}
use lib.IntN.{ℤ, pos, negsuc}
use lib.ListN.{length}
use borrow.Author.Rules.{rules}
use Rattle.text.specs.Append.{marked}
use Rattle.text.specs.Decimal.{signed_decimal}
use Rattle.text.proofs.Lengths.{decimal-length}
use Rattle.list_lines.specs.Lines.{coordinate_text}
use Rattle.list_lines.proofs.put_coordinate.Statement.{statement}
use Rattle.list_lines.proofs.put_coordinate.Tie as tie

-- a number of 32 bits has at most ten digits and a sign
short : (z : ℤ) → mag z < 2 ^ 31 → length (signed_decimal z) ≤ 11
unfolding signed_decimal
short (pos n) h = let l = decimal-length 9 n (lt_of_lt_of_le h (lit≤ tt)) in omega arith
short (negsuc n) h = let l = decimal-length 9 (suc n) (lt_of_lt_of_le {m = 2 ^ 31 + 1} (omega arith) (lit≤ tt)) in omega arith

fits : (s : tie.Start) → mag s.args.z < 2 ^ 63
fits s = let h : SFits w32 s.args.z = search rules in lt_of_lt_of_le h.sfits (lit≤ tt)

cast-put-signed : tie.Need-overflow_cast-z
cast-put-signed c =
    let s = c.before.before in
    let h : SFits w32 s.args.z = search rules in
    rw (to_z-of_z h) (record { sfits = fits s })

put-signed-requires : tie.Need-put_signed-end-requires
put-signed-requires c κs = search rules

put-byte-requires : tie.Need-put_byte-requires
put-byte-requires c κs = search rules

same_length : tie.Need-shape_of-out
same_length c = search rules

returns : tie.Need-returns
unfolding coordinate_text
returns c =
    let b = c in
    let u = b in
    let s = u.before.before.before in
    let h : SFits w32 s.args.z = search rules in
    let g : SFits w64 s.args.z = record { sfits = fits s.before.before.before.before.before.before } in
    let m =
    marked s.args.out.now s.args.at (signed_decimal s.args.z) 32 11 u.put_signed-end.new.out b.put_byte.new.out u.put_signed-end.result b.put_byte.result
    (short s.args.z h.sfits)
    (omega arith)
    (rw (to_z-of_z h, to_z-of_z g) at u.put_signed-end.ensures)
    b.put_byte.ensures in
    (m.0, omega arith)

pub put_coordinate_spec : {M : Type 1} → statement M
put_coordinate_spec =
    tie.close (tie.spec cast-put-signed put-signed-requires put-byte-requires same_length returns)
