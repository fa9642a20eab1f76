use lib.Dec.{lit≤}
use mathlib.Core.Path.{refl}
use Rattle.job_words.specs.Laws.{means_empty}
use Rattle.job_words.proofs.reading.empty.Statement.{statement}
use Rattle.job_words.proofs.reading.empty.Tie as tie

returns : tie.Need-returns
returns c = means_empty _ c.args.blank refl refl refl (lit≤ tt)

pub empty_spec : {M : Type 1} → statement M
empty_spec = tie.close (tie.spec returns)
