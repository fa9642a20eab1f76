use mathlib.Core.Path.{ap₂}
use mathlib.Core.Bool.{◌&&◌}
use Rattle.operator_matrices.specs.Matrix.{lies_within}
use borrow.Author.Rules.{rules}
use Rattle.operator_matrices.proofs.bounded.is_within.Statement.{statement}
use Rattle.operator_matrices.proofs.bounded.is_within.Tie as tie

entry-is-within-requires : tie.Need-entry_is_within-requires
entry-is-within-requires c κs = search rules

entry-is-within-requires-2 : tie.Need-entry_is_within-requires-2
entry-is-within-requires-2 c κs = search rules

entry-is-within-requires-3 : tie.Need-entry_is_within-requires-3
entry-is-within-requires-3 c κs = search rules

entry-is-within-requires-4 : tie.Need-entry_is_within-requires-4
entry-is-within-requires-4 c κs = search rules

returns : tie.Need-returns
unfolding lies_within
returns c =
    let c3 = c in
    let c2 = c3 in
    let c1 = c2 in
    ap₂ ◌&&◌ (ap₂ ◌&&◌ c.entry_is_within.ensures c.entry_is_within-2.ensures) (ap₂ ◌&&◌ c.entry_is_within-3.ensures c.entry_is_within-4.ensures)

bounds-m-0 : tie.Need-bounds-m-0
bounds-m-0 c = search rules

bounds-m-0-2 : tie.Need-bounds-m-0-2
bounds-m-0-2 c = search rules

bounds-m-0-3 : tie.Need-bounds-m-0-3
bounds-m-0-3 c = search rules

bounds-m-1 : tie.Need-bounds-m-1
bounds-m-1 c = search rules

bounds-m-1-2 : tie.Need-bounds-m-1-2
bounds-m-1-2 c = search rules

bounds-m-0-4 : tie.Need-bounds-m-0-4
bounds-m-0-4 c = search rules

bounds-m-1-3 : tie.Need-bounds-m-1-3
bounds-m-1-3 c = search rules

bounds-m-1-4 : tie.Need-bounds-m-1-4
bounds-m-1-4 c = search rules

pub is_within_spec : {M : Type 1} → statement M
is_within_spec =
    tie.close (tie.spec bounds-m-0 bounds-m-0-2 entry-is-within-requires bounds-m-0-3 bounds-m-1 entry-is-within-requires-2 bounds-m-1-2 bounds-m-0-4 entry-is-within-requires-3 bounds-m-1-3 bounds-m-1-4 entry-is-within-requires-4 returns)
