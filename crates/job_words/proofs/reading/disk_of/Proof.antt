use mir.Syntax.{w64}
use mir.Val.{SFits}
use mir.Facts.{to_z-of_z}
use lib.IntN.{pos}
use lib.ListN.{get_or}
use native.Mathlib.Omega.{arith}
use Rattle.job_words.specs.Laws.{means_is, disk-many, disk-one}
use borrow.Author.Rules.{rules}
use Rattle.job_words.proofs.reading.disk_of.Statement.{statement}
use Rattle.job_words.proofs.reading.disk_of.Tie as tie

empty-requires : tie.Need-empty-requires
empty-requires c κs = search rules

returns : tie.Need-returns-then-count-ne1
returns c = means_is (disk-many c.args.count c.args.numbers c.if-count-ne1.true (omega arith)) c.empty.ensures

array-copy-out-disk-over : tie.Need-bounds-numbers-0
array-copy-out-disk-over c = search rules

disk-over-requires : tie.Need-disk_over-requires
disk-over-requires c κs = search rules

returns-2 : tie.Need-returns
returns-2 c =
    let h : SFits w64 (get_or c.args.numbers 0 (pos 0)) = search rules in
    means_is (disk-one c.args.count c.args.numbers c.if-count-ne1.false (omega arith)) (rw (to_z-of_z h) at c.disk_over.ensures)

pub disk_of_spec : {M : Type 1} → statement M
disk_of_spec =
    tie.close
    (tie.spec empty-requires returns array-copy-out-disk-over disk-over-requires returns-2)
