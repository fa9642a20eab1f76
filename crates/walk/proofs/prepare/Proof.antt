use mathlib.Core.Path.{◌≡◌, refl, sym, ◌∙◌}
use mathlib.Core.Bool.{true}
use borrow.Author.Rules.{rules}
use Rattle.region.specs.Region.{accepted_job}
use Rattle.cuts.specs.Bounds.{ready}
use Rattle.walk.proofs.prepare.Statement.{statement}
use Rattle.walk.proofs.prepare.Tie as tie

is-accepted-requires : tie.Need-is_accepted-requires
is-accepted-requires c κs = search rules

accepted : (c : tie.Then-is_accepted) → accepted_job c.args.job ≡ true
accepted c = sym c.is_accepted.ensures ∙ c.if-is_accepted.true

of-job-requires : tie.Need-of_job-requires
of-job-requires c κs = accepted c

returns : tie.Need-returns-then-is_accepted
returns c = (c.of_job.ensures.same, ready _ _ (accepted c.before) c.of_job.ensures)

returns-2 : tie.Need-returns
returns-2 c = (refl, sym c.is_accepted.ensures ∙ c.if-is_accepted.false)

pub prepare_spec : {M : Type 1} → statement M
prepare_spec = tie.close (tie.spec is-accepted-requires of-job-requires returns returns-2)
