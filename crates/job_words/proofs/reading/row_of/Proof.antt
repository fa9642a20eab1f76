use native.Mathlib.Omega.{arith}
use mathlib.Core.Path.{sym}
use mathlib.Core.Bool.{false}
use lib.Seq.{length-take-le}
use Rattle.text_scan.specs.Run.{is_byte, run_end-within}
use Rattle.job_words.specs.Rows.{bare, row_of}
use borrow.Author.Rules.{rules}
use Rattle.job_words.proofs.reading.row_of.Statement.{statement}
use Rattle.job_words.proofs.reading.row_of.Tie as tie

run-end-requires : tie.Need-run_end-end-requires
run-end-requires c κs = search rules

slice-aggregate-words-row : tie.Need-slice_bounds-words_row-end
slice-aggregate-words-row c = let l = c.args.line.now in let e = c.run_end-end.ensures in let b = run_end-within (is_byte 35 false) l 0 (omega arith) in sym (length-take-le c.run_end-end.result l (omega arith))

words-row-requires : tie.Need-words_row-requires
words-row-requires c κs = search rules

returns : tie.Need-returns
unfolding row_of bare
returns c = rw c.run_end-end.ensures at c.words_row.ensures

pub row_of_spec : {M : Type 1} → statement M
row_of_spec =
    tie.close (tie.spec run-end-requires slice-aggregate-words-row words-row-requires returns)
