use Rattle.std.proofs.Common.{to_z-of_z}
use Rattle.job_words.specs.Laws.{means_is, disk-negative, disk-large}
use Rattle.job_words.proofs.reading.disk_over.Goals as goal
use Rattle.job_words.proofs.reading.disk_over.Goals.{then-n-lt0-via-then-n-lt0, then-n-lt0-via-else-n-lt0+then-n-gt65535}

pub returns-then-n-lt0 : goal.returns-then-n-lt0
returns-then-n-lt0 c =
    elim c.then-n-lt0.branch [
      | then-n-lt0-via-then-n-lt0 w ↦ means_is (disk-negative c.args.n (rw (to_z-of_z c.ranges.n) at w.if-n-lt0.true)) c.empty.ensures
      | then-n-lt0-via-else-n-lt0+then-n-gt65535 w ↦ means_is (disk-large c.args.n (rw (to_z-of_z c.ranges.n) at w.if-n-gt65535.true)) c.empty.ensures
    ]
