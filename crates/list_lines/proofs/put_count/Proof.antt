-- `put_count` meets its contract. Assumes nothing.
use native.Mathlib.Omega.{arith}
use borrow.Author.Rules.{rules}
use Rattle.text.specs.Append.{marked}
use Rattle.text.specs.Decimal.{decimal}
use Rattle.text.proofs.Lengths.{unsigned_length}
use Rattle.list_lines.specs.Lines.{count_text}
use Rattle.list_lines.proofs.put_count.Statement.{statement}
use Rattle.list_lines.proofs.put_count.Tie as tie

put-unsigned-requires : tie.Need-put_unsigned-end-requires
put-unsigned-requires c κs = search rules

put-byte-requires : tie.Need-put_byte-requires
put-byte-requires c κs = search rules

same_length : tie.Need-shape_of-out
same_length c = search rules

returns : tie.Need-returns
unfolding count_text
returns c =
    let b = c in
    let u = b in
    let s = u in
    let m =
    marked s.args.out.now s.args.at (decimal s.args.n) s.args.mark 20 u.put_unsigned-end.new.out b.put_byte.new.out u.put_unsigned-end.result b.put_byte.result
    (unsigned_length s.args.n s.ranges.n.fits)
    (omega arith)
    u.put_unsigned-end.ensures
    b.put_byte.ensures in
    (m.0, omega arith)

pub put_count_spec : {M : Type 1} → statement M
put_count_spec =
    tie.close (tie.spec put-unsigned-requires put-byte-requires same_length returns)
