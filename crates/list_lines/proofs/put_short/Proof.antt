-- `put_short` meets its contract. Assumes nothing.
use native.Mathlib.Nat.{lt_of_lt_of_le}
use native.Mathlib.Omega.{arith}
use lib.Dec.{lit≤}
use borrow.Author.Rules.{rules}
use Rattle.text.specs.Append.{marked}
use Rattle.text.specs.Decimal.{decimal}
use Rattle.text.proofs.Lengths.{decimal-length}
use Rattle.list_lines.specs.Lines.{count_text}
use Rattle.list_lines.proofs.put_short.Statement.{statement}
use Rattle.list_lines.proofs.put_short.Tie as tie

cast-put-small : tie.Need-overflow_cast-n
cast-put-small c = search rules

put-small-requires : tie.Need-put_small-requires
put-small-requires c κs = search rules

same_length : tie.Need-shape_of-out-then-n-lt100
same_length c = search rules

returns : tie.Need-returns-then-n-lt100
returns c = let e = c.put_small.ensures in (e.0, omega (arith, e.1))

put-unsigned-requires : tie.Need-put_unsigned-end-requires
put-unsigned-requires c κs = search rules

put-byte-requires : tie.Need-put_byte-requires
put-byte-requires c κs = search rules

same-length-2 : tie.Need-shape_of-out
same-length-2 c = search rules

returns-2 : tie.Need-returns
unfolding count_text
returns-2 c =
    let b = c in
    let u = b in
    let s = u in
    let m =
    marked s.args.out.now s.args.at (decimal s.args.n) s.args.mark 10 u.put_unsigned-end.new.out b.put_byte.new.out u.put_unsigned-end.result b.put_byte.result
    (decimal-length 9 s.args.n (lt_of_lt_of_le s.requires.0 (lit≤ tt)))
    (omega arith)
    u.put_unsigned-end.ensures
    b.put_byte.ensures in
    (m.0, omega arith)

pub put_short_spec : {M : Type 1} → statement M
put_short_spec =
    tie.close (tie.spec cast-put-small put-small-requires same_length returns put-unsigned-requires put-byte-requires same-length-2 returns-2)
