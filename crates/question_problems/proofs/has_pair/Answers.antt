use Rattle.std.proofs.Common.{sym, ◌∙◌, arith}
use Rattle.ring.specs.declared.RootTwo.{RootTwo}
use Rattle.question_problems.specs.lemmas.Nest.{row-start, row_done, row-all, rows_more}
use Rattle.question_problems.proofs.has_pair.Goals as goal
use Rattle.question_problems.proofs.has_pair.Goals.{then-q-lt-TOP+else-reaches, else-q-lt-TOP}

pub loop-t-preserved : goal.loop-t-preserved
loop-t-preserved c =
    let Any : RootTwo → Type 0 = λ z. Unit {0} in
    let t = c.loop-t.t in
    let q = c.start-q.result in
    let row = row-start c.args.l Any t q c.start-q.ensures in
    record {
      within = omega (arith, c.requires.end-in);
      rows = rows_more c.args.l Any t c.loop-t.invariant.rows
          (elim c.if-q-lt-TOP.branch [
            | then-q-lt-TOP+else-reaches w ↦ row_done c.args.l Any t q c.requires row (sym w.reaches.ensures ∙ w.if-reaches.false)
            | else-q-lt-TOP w ↦ row-all c.args.l Any t q (omega (arith, w.if-q-lt-TOP.false)) row
          ]);
    }
