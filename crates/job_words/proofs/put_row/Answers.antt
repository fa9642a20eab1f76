use borrow.Author.Tests.{not-true}
use Rattle.job_words.specs.Laws.{laid_none, bytes-blank, bytes-bad}
use Rattle.job_words.proofs.put_row.Goals as goal
use Rattle.job_words.proofs.put_row.Goals.{then-r-via-then-r, then-r-via-else-r+then-not-r}

pub returns-then-r : goal.returns-then-r
returns-then-r c =
    elim c.then-r.branch [
      | then-r-via-then-r w ↦ rw (bytes-blank c.row_of-r.ensures w.if-r.true) (laid_none c.args.out.now c.args.at)
      | then-r-via-else-r+then-not-r w ↦ rw (bytes-bad c.row_of-r.ensures w.if-r.false (not-true _ w.if-not-r.true)) (laid_none c.args.out.now c.args.at)
    ]
