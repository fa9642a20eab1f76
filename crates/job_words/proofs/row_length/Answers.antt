use Rattle.std.proofs.Common.{arith}
use borrow.Author.Tests.{not-false}
use Rattle.job_words.specs.Laws.{length-said, small}
use Rattle.job_words.proofs.row_length.Goals as goal

pub returns : goal.returns
returns c =
    let r = c.row_of-r in
    let h = small r.result.kind in
    let e = c.body_length.ensures in
    let l = length-said r.ensures c.if-r.false (not-false _ c.if-not-r.false) in
    (omega arith, omega arith)
