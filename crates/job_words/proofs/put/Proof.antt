use native.Mathlib.Omega.{arith}
use mathlib.Core.Path.{sym, ◌∙◌}
use lib.Dec.{lit≤}
use lib.ListN.{length}
use borrow.Author.Tests.{lt-ltb}
use Rattle.list_lines.specs.Lines.{too_long_line}
use Rattle.text_puts.specs.Puts.{one}
use Rattle.job_words.specs.Laws.{job_records, job_long, job_bad}
use borrow.Author.Rules.{rules}
use Rattle.job_words.proofs.put.Statement.{statement}
use Rattle.job_words.proofs.put.Tie as tie

put-too-long-requires : tie.Need-put_too_long-requires
put-too-long-requires c κs = search rules

same_length : tie.Need-shape_of-out-then-bytes-gt458752
same_length c = search rules

returns : tie.Need-returns-then-bytes-gt458752
returns c = rw (lt-ltb 458752 (length c.args.bytes.now) (omega arith)) (one c.args.out.now 0 too_long_line c.put_too_long.new.out c.put_too_long.result 65536 (lit≤ tt) c.put_too_long.ensures)

bad-line-requires : tie.Need-bad_line-line-requires
bad-line-requires c κs = search rules

put-number-requires : tie.Need-put_number-requires
put-number-requires c κs = search rules

same-length-2 : tie.Need-shape_of-out-then-line-ne0
same-length-2 c = search rules

returns-2 : tie.Need-returns-then-line-ne0
returns-2 c = job_bad c.args.out.now c.args.bytes.now c.put_number.new.out c.put_number.result (omega arith) c.bad_line-line.result c.bad_line-line.ensures c.if-line-ne0.true c.put_number.ensures

exceeds-requires : tie.Need-exceeds-requires
exceeds-requires c κs = search rules

put-too-long-requires-2 : tie.Need-put_too_long-requires-then-exceeds
put-too-long-requires-2 c κs = search rules

same-length-3 : tie.Need-shape_of-out-then-exceeds
same-length-3 c = search rules

returns-3 : tie.Need-returns-then-exceeds
returns-3 c = job_long c.args.out.now c.args.bytes.now c.put_too_long-then-exceeds.new.out c.put_too_long-then-exceeds.result (omega arith) c.bad_line-line.result c.bad_line-line.ensures c.if-line-ne0.false (sym c.exceeds.ensures ∙ c.if-exceeds.true) (one c.args.out.now 0 too_long_line c.put_too_long-then-exceeds.new.out c.put_too_long-then-exceeds.result 65536 (lit≤ tt) c.put_too_long-then-exceeds.ensures)

put-records-requires : tie.Need-put_records-requires
put-records-requires c κs = search rules

same-length-4 : tie.Need-shape_of-out
same-length-4 c = search rules

returns-4 : tie.Need-returns
returns-4 c = job_records c.args.out.now c.args.bytes.now c.put_records.new.out c.put_records.result (omega arith) c.bad_line-line.result c.bad_line-line.ensures c.if-line-ne0.false (sym c.exceeds.ensures ∙ c.if-exceeds.false) c.put_records.ensures

pub put_spec : {M : Type 1} → statement M
put_spec =
    tie.close (tie.spec put-too-long-requires same_length returns bad-line-requires put-number-requires same-length-2 returns-2 exceeds-requires put-too-long-requires-2 same-length-3 returns-3 put-records-requires same-length-4 returns-4)
