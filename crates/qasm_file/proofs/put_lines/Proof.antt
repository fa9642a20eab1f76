use lib.Dec.{lit≤}
use Rattle.text_puts.specs.Puts.{one, join}
use Rattle.qasm_file.specs.File.{header}
use borrow.Author.Rules.{rules}
use Rattle.qasm_file.proofs.put_lines.Statement.{statement}
use Rattle.qasm_file.proofs.put_lines.Tie as tie

put-bytes-requires : tie.Need-put_bytes-at-requires
put-bytes-requires c κs = search rules

put-bytes-requires-2 : tie.Need-put_bytes-requires
put-bytes-requires-2 c κs = search rules

same_length : tie.Need-shape_of-out
same_length c = search rules

returns : tie.Need-returns
returns c =
    let b = c in
    let a = b in
    let s = c in
    join
    (one c.args.out.now 0 header c.put_bytes-at.new.out c.put_bytes-at.result 47 (lit≤ tt) c.put_bytes-at.ensures)
    (one c.put_bytes-at.new.out c.put_bytes-at.result c.args.lines.now c.put_bytes.new.out c.put_bytes.result 524288 c.requires c.put_bytes.ensures)

pub put_lines_spec : {M : Type 1} → statement M
put_lines_spec =
    tie.close (tie.spec put-bytes-requires put-bytes-requires-2 same_length returns)
