-- `put_number` meets its contract. Assumes nothing.
use native.Mathlib.Omega.{arith}
use Rattle.text.specs.Append.{appended}
use Rattle.text.specs.Decimal.{decimal}
use Rattle.text.proofs.Lengths.{unsigned_length}
use borrow.Author.Rules.{rules}
use Rattle.list_lines.proofs.put_number.Statement.{statement}
use Rattle.list_lines.proofs.put_number.Tie as tie

put-unsigned-requires : tie.Need-put_unsigned-requires
put-unsigned-requires c κs = search rules

same_length : tie.Need-shape_of-out
same_length c = search rules

returns : tie.Need-returns
returns c =
    let u = c in
    let s = u in
    let l = unsigned_length s.args.n (omega arith) in
    let a = appended s.args.out.now s.args.at (decimal s.args.n) u.put_unsigned.new.out u.put_unsigned.result (omega arith) u.put_unsigned.ensures.0 u.put_unsigned.ensures.1 in
    let e = a.end in
    (a, omega arith)

pub put_number_spec : {M : Type 1} → statement M
put_number_spec = tie.close (tie.spec put-unsigned-requires same_length returns)
