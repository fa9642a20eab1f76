use mathlib.Core.Path.{ap, ◌∙◌}
use borrow.Author.Rules.{rules}
use Rattle.ring.specs.declared.Point.{Point}
use Rattle.ranks.specs.Rest.{at}
use Rattle.walk_list.specs.Walk.{rank_of}
use Rattle.tray_merge.specs.Lane.{front-live, front-none}
use Rattle.tray_merge.proofs.lanes.front.Statement.{statement}
use Rattle.tray_merge.proofs.lanes.front.Tie as tie

mul-point-at : tie.Need-overflow_mul-j
mul-point-at c = search rules

mul-point-at-2 : tie.Need-overflow_mul-i
mul-point-at-2 c = search rules

add-point-at : tie.Need-overflow_add-j
add-point-at c = search rules

point-at-requires : tie.Need-point_at-requires
point-at-requires c κs = search rules

returns : tie.Need-returns-then-i-e
returns c = ap (λ (v : Point). at (rank_of v)) c.point_at.ensures ∙ front-live _ _ _ _ c.if-i-e.true

returns-2 : tie.Need-returns
returns-2 c = front-none _ _ _ _ c.if-i-e.false

pub front_spec : {M : Type 1} → statement M
front_spec =
    tie.close
    (tie.spec mul-point-at mul-point-at-2 add-point-at point-at-requires returns returns-2)
