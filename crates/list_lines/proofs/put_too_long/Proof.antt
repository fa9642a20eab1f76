-- `put_too_long` meets its contract. Assumes nothing.
use borrow.Author.Rules.{rules}
use Rattle.list_lines.proofs.put_too_long.Statement.{statement}
use Rattle.list_lines.proofs.put_too_long.Tie as tie

put-bytes-requires : tie.Need-put_bytes-requires
put-bytes-requires c κs = search rules

same_length : tie.Need-shape_of-out
same_length c = search rules

returns : tie.Need-returns
returns c = c.put_bytes.ensures

pub put_too_long_spec : {M : Type 1} → statement M
put_too_long_spec = tie.close (tie.spec put-bytes-requires same_length returns)
