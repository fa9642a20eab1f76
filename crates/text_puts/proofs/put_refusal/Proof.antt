use lib.Dec.{lit≤}
use native.Mathlib.Omega.{arith}
use mathlib.Core.List.{[], ◌∷◌}
use Rattle.text.proofs.Lengths.{unsigned_length}
use Rattle.text.specs.Decimal.{decimal}
use Rattle.text_puts.specs.Puts.{one, join, weaken}
use borrow.Author.Rules.{rules}
use Rattle.text_puts.proofs.put_refusal.Statement.{statement}
use Rattle.text_puts.proofs.put_refusal.Tie as tie

-- src/lib.rt:23:9
put-bytes-requires : tie.Need-put_bytes-a-requires
put-bytes-requires c κs = search rules

-- src/lib.rt:24:9
put-unsigned-requires : tie.Need-put_unsigned-b-requires
put-unsigned-requires c κs = search rules

-- src/lib.rt:25:5
put-number-requires : tie.Need-put_number-requires
put-number-requires c κs = search rules

-- src/lib.rt:20:1
same_length : tie.Need-shape_of-out
same_length c = search rules

-- src/lib.rt:20:1
returns : tie.Need-returns
returns c =
    let n = c in
    let u = n in
    let b = u in
    let s = b in
    weaken _ (omega arith) (join
    (one s.args.out.now s.args.at (114 ∷ 101 ∷ 102 ∷ 117 ∷ 115 ∷ 101 ∷ 100 ∷ 32 ∷ []) b.put_bytes-a.new.out b.put_bytes-a.result 8 (lit≤ tt) b.put_bytes-a.ensures)
    (join
    (one b.put_bytes-a.new.out b.put_bytes-a.result (decimal s.args.number) u.put_unsigned-b.new.out u.put_unsigned-b.result 20 (unsigned_length s.args.number (omega arith)) u.put_unsigned-b.ensures)
    n.put_number.ensures))

pub put_refusal_spec : {M : Type 1} → statement M
put_refusal_spec =
    tie.close (tie.spec put-bytes-requires put-unsigned-requires put-number-requires same_length returns)
