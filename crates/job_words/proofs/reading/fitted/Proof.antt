use native.Mathlib.Omega.{arith}
use mathlib.Core.Path.{refl, sym}
use lib.ListN.{take}
use lib.Seq.{length-take-le}
use Rattle.job_words.specs.Laws.{means_is, means_fitted, many_taken}
use borrow.Author.Rules.{rules}
use Rattle.job_words.proofs.reading.fitted.Statement.{statement}
use Rattle.job_words.proofs.reading.fitted.Tie as tie

empty-requires : tie.Need-empty-requires
empty-requires c κs = search rules

returns : tie.Need-returns-then-count-gt8
returns c = means_is (many_taken c.args.kind c.args.count c.args.numbers (omega arith) (omega arith)) c.empty.ensures

array-share-prefix-numbers : tie.Need-slice_bounds-numbers-end
array-share-prefix-numbers c = search rules

slice-aggregate-takes-all : tie.Need-slice_bounds-takes_all-end
slice-aggregate-takes-all c = sym (length-take-le c.args.count c.args.numbers (omega arith))

takes-all-requires : tie.Need-takes_all-good-requires
takes-all-requires c κs = search rules

returns-2 : tie.Need-returns
returns-2 c = means_fitted c.args.kind (take c.args.count c.args.numbers) _ refl refl (omega arith) (omega arith) refl c.takes_all-good.ensures

pub fitted_spec : {M : Type 1} → statement M
fitted_spec =
    tie.close
    (tie.spec
    empty-requires
    returns
    array-share-prefix-numbers
    slice-aggregate-takes-all
    takes-all-requires
    returns-2)
