use mathlib.Core.Path.{◌≡◌, sym, ◌∙◌}
use mathlib.Core.Bool.{true}
use Rattle.region.specs.Region.{accepted_job}
use Rattle.region.specs.Decide.{not_accepted}
use Rattle.region.specs.Selection.{unsolved}
use Rattle.cuts.specs.Bounds.{ready}
use Rattle.walk_list.proofs.lemmas.Full.{full-empty}
use Rattle.walk_brief.specs.Brief.{has_none, whole-look}
use borrow.Author.Rules.{rules}
use Rattle.walk_brief.proofs.glance.Statement.{statement}
use Rattle.walk_brief.proofs.glance.Tie as tie

is-accepted-requires : tie.Need-is_accepted-requires
is-accepted-requires c κs = search rules

returns : tie.Need-returns-then-not-is_accepted
returns c =
    let j = c.args.job in
    let n = sym c.is_accepted.ensures ∙ c.if-not-is_accepted.true in
    has_none _ _ _ ((full-empty j).1 (λ v. unsolved j v (sym (not_accepted j v n))))

accepted : (c : tie.Else-not-is_accepted) → accepted_job c.args.job ≡ true
accepted c = sym c.is_accepted.ensures ∙ c.if-not-is_accepted.false

of-job-requires : tie.Need-of_job-requires
of-job-requires c κs = accepted c

in-all-requires : tie.Need-in_all-requires
in-all-requires c κs = ready _ _ (accepted c.before) c.of_job.ensures

returns-2 : tie.Need-returns
returns-2 c = whole-look _ _ _ c.of_job.ensures.same c.in_all.ensures

pub glance_spec : {M : Type 1} → statement M
glance_spec =
    tie.close (tie.spec is-accepted-requires returns of-job-requires in-all-requires returns-2)
