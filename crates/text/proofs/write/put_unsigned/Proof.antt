-- `put_unsigned` meets its contract. Assumes nothing.
use native.Mathlib.Omega.{arith}
use borrow.Author.Rules.{rules}
use Rattle.text.proofs.Digits.{decimal-one}
use Rattle.text.proofs.write.put_unsigned.Statement.{statement}
use Rattle.text.proofs.write.put_unsigned.Tie as tie

cast-put-byte : tie.Need-overflow_cast-n
cast-put-byte c = search rules

add-put-byte : tie.Need-overflow_add-n
add-put-byte c = search rules

put-byte-requires : tie.Need-put_byte-requires
put-byte-requires c κs = search rules

same_length : tie.Need-shape_of-out-then-n-lt10
same_length c = search rules

returns : tie.Need-returns-then-n-lt10
returns c =
    let p = c in
    rw (decimal-one p.args.n (omega arith)) p.put_byte.ensures

cast-put-two : tie.Need-overflow_cast-n-then-n-lt100
cast-put-two c = search rules

put-two-requires : tie.Need-put_two-requires
put-two-requires c κs = search rules

same-length-2 : tie.Need-shape_of-out-then-n-lt100
same-length-2 c = search rules

returns-2 : tie.Need-returns-then-n-lt100
returns-2 c = search rules

put-long-requires : tie.Need-put_long-requires
put-long-requires c κs = search rules

same-length-3 : tie.Need-shape_of-out
same-length-3 c = search rules

returns-3 : tie.Need-returns
returns-3 c = search rules

pub put_unsigned_spec : {M : Type 1} → statement M
put_unsigned_spec =
    tie.close
    (tie.spec
    cast-put-byte
    add-put-byte
    put-byte-requires
    same_length
    returns
    cast-put-two
    put-two-requires
    same-length-2
    returns-2
    put-long-requires
    same-length-3
    returns-3)
