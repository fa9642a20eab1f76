use native.Mathlib.Omega.{arith}
use lib.Dec.{lit≤}
use lib.ListN.{length}
use Rattle.text.proofs.Lengths.{unsigned_length}
use mathlib.Core.List.{[], ◌∷◌}
use Rattle.text.specs.Decimal.{decimal}
use Rattle.text_puts.specs.Puts.{one, join, weaken}
use borrow.Author.Rules.{rules}
use Rattle.text_puts.proofs.put_number.Statement.{statement}
use Rattle.text_puts.proofs.put_number.Tie as tie

put-bytes-requires : tie.Need-put_bytes-a-requires
put-bytes-requires c κs = search rules

put-byte-requires : tie.Need-put_byte-b-requires
put-byte-requires c κs = search rules

put-unsigned-requires : tie.Need-put_unsigned-c-requires
put-unsigned-requires c κs = search rules

put-byte-requires-2 : tie.Need-put_byte-requires
put-byte-requires-2 c κs = search rules

same_length : tie.Need-shape_of-out
same_length c = search rules

returns : tie.Need-returns
returns c =
    let d = c in
    let u = d in
    let b = u in
    let a = b in
    let s = a in
    weaken _ (omega arith) (join (join (join
    (one s.args.out.now s.args.at s.args.name.now a.put_bytes-a.new.out a.put_bytes-a.result (length s.args.name.now) (omega arith) a.put_bytes-a.ensures)
    (one a.put_bytes-a.new.out a.put_bytes-a.result (32 ∷ []) b.put_byte-b.new.out b.put_byte-b.result 1 (lit≤ tt) b.put_byte-b.ensures))
    (one b.put_byte-b.new.out b.put_byte-b.result (decimal s.args.n) u.put_unsigned-c.new.out u.put_unsigned-c.result 20 (unsigned_length s.args.n s.ranges.n.fits) u.put_unsigned-c.ensures))
    (one u.put_unsigned-c.new.out u.put_unsigned-c.result (10 ∷ []) d.put_byte.new.out d.put_byte.result 1 (lit≤ tt) d.put_byte.ensures))

pub put_number_spec : {M : Type 1} → statement M
put_number_spec =
    tie.close
    (tie.spec
    put-bytes-requires
    put-byte-requires
    put-unsigned-requires
    put-byte-requires-2
    same_length
    returns)
