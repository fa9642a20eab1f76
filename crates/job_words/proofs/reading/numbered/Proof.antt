use mathlib.Core.Path.{sym, ap}
use Rattle.job_words.specs.Rows.{numbered}
use Rattle.job_words.specs.Laws.{means_is, listed-good, listed-none}
use borrow.Author.Rules.{rules}
use Rattle.job_words.proofs.reading.numbered.Statement.{statement}
use Rattle.job_words.proofs.reading.numbered.Tie as tie

numbers-from-requires : tie.Need-numbers_from-n-requires
numbers-from-requires c κs = search rules

fitted-requires : tie.Need-fitted-requires
fitted-requires c κs = search rules

empty-requires : tie.Need-empty-requires
empty-requires c κs = search rules

returns : tie.Need-returns-then-n
returns c = means_is (ap (numbered c.args.kind) (sym (listed-good c.numbers_from-n.result _ c.numbers_from-n.ensures c.if-n.true))) c.fitted.ensures

returns-2 : tie.Need-returns-else-n
returns-2 c = means_is (ap (numbered c.args.kind) (sym (listed-none c.numbers_from-n.result _ c.numbers_from-n.ensures c.if-n.false))) c.empty.ensures

pub numbered_spec : {M : Type 1} → statement M
numbered_spec =
    tie.close (tie.spec numbers-from-requires fitted-requires empty-requires returns returns-2)
