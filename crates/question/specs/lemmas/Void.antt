-- A job with a region that is seen to hold nothing has no solution: SPEC, "Questions".
use Rattle.std.specs.Prelude.{◌≡◌, true, false, not}
use Rattle.std.proofs.Common.{sym, ap}
use Rattle.ranks.specs.Rest.{is_nil}
use Rattle.ring.specs.declared.Point.{Point}
use Rattle.region.specs.declared.Job.{Job}
use Rattle.region.specs.Region.{solves}
use Rattle.region.specs.lemmas.Membership.{solves-true}
use Rattle.region.specs.Void.{is_void, void_none}
use Rattle.walk_list.specs.Walk.{full}
use Rattle.walk_list.proofs.lemmas.Full.{full-empty}
use Rattle.walk_list.proofs.lemmas.Left.{no_solution}

empty : (j : Job) → ((v : Point) → solves j v ≡ true → ⊥) → false ≡ not (is_nil (full j))
empty j h = sym (ap not (ap is_nil ((full-empty j).1 (λ v. no_solution j v (h v)))))

pub void_first : (j : Job) → is_void j.a ≡ true → false ≡ not (is_nil (full j))
void_first j h = empty j (λ v e. void_none j.a j.k _ _ h (solves-true j v e).first)

pub void_second : (j : Job) → is_void j.b ≡ true → false ≡ not (is_nil (full j))
void_second j h = empty j (λ v e. void_none j.b j.k _ _ h (solves-true j v e).second)
