use Rattle.std.proofs.Common.{◌≡◌, true, sym, ◌∙◌}
use borrow.Author.Tests.{not-false}
use Rattle.ranks.specs.Rest.{is_nil}
use Rattle.walk_list.specs.Walk.{full}
use Rattle.part.specs.Answered.{printed_empty}
use Rattle.part.proofs.of_job.Goals as goal

pub returns-then-not-has_solution : goal.returns-then-not-has_solution
returns-then-not-has_solution g c =
    let e : is_nil (full c.args.job) ≡ true = not-false _ (sym c.has_solution.ensures ∙ c.if-not-has_solution.true) in
    printed_empty c.args.lo c.args.hi c.args.job.k (full c.args.job) e
