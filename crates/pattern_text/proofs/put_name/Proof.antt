use lib.Dec.{lit≤}
use mathlib.Core.List.{[], ◌∷◌}
use Rattle.text_puts.specs.Puts.{one}
use borrow.Author.Rules.{rules}
use Rattle.pattern_text.proofs.put_name.Statement.{statement}
use Rattle.pattern_text.proofs.put_name.Tie as tie

put-bytes-requires : tie.Need-put_bytes-requires
put-bytes-requires c κs = search rules

put-bytes-requires-2 : tie.Need-put_bytes-requires-else-p
put-bytes-requires-2 c κs = search rules

same_length : tie.Need-shape_of-out-then-p
same_length c = search rules

returns : tie.Need-returns-then-p
returns c =
    let p = c in
    let t = p in
    let s = t in
    rw c.if-p.true (one c.args.out.now c.args.at (111 ∷ 102 ∷ 32 ∷ 84 ∷ 85 ∷ 84 ∷ 10 ∷ []) c.put_bytes.new.out c.put_bytes.result 7 (lit≤ tt) c.put_bytes.ensures)

same-length-2 : tie.Need-shape_of-out-else-p
same-length-2 c = search rules

returns-2 : tie.Need-returns-else-p
returns-2 c =
    let p = c in
    let t = p in
    let s = t in
    rw c.if-p.false (one c.args.out.now c.args.at (111 ∷ 102 ∷ 32 ∷ 85 ∷ 10 ∷ []) c.put_bytes-else-p.new.out c.put_bytes-else-p.result 7 (lit≤ tt) c.put_bytes-else-p.ensures)

pub put_name_spec : {M : Type 1} → statement M
put_name_spec =
    tie.close (tie.spec put-bytes-requires put-bytes-requires-2 same_length returns same-length-2 returns-2)
