use borrow.Author.Rules.{rules}
use Rattle.operator_matrices.proofs.matrix.cell.Statement.{statement}
use Rattle.operator_matrices.proofs.matrix.cell.Tie as tie

mul-pairs : tie.Need-offset_bounds-m-i
mul-pairs c = search rules

mul-pairs-2 : tie.Need-offset_bounds-n-j
mul-pairs-2 c = search rules

mul-pairs-3 : tie.Need-offset_bounds-m-i-2
mul-pairs-3 c = search rules

mul-pairs-4 : tie.Need-offset_bounds-n-j-2
mul-pairs-4 c = search rules

pairs-requires : tie.Need-pairs-requires
pairs-requires c κs = let h = c.requires in search (rules, h.0, h.1)

returns : tie.Need-returns
returns c = search rules

bounds-m-i : tie.Need-bounds-m-i
bounds-m-i c = search rules

bounds-m-0 : tie.Need-bounds-m-0
bounds-m-0 c = search rules

bounds-n-0 : tie.Need-bounds-n-0
bounds-n-0 c = search rules

bounds-n-j : tie.Need-bounds-n-j
bounds-n-j c = search rules

bounds-m-i-2 : tie.Need-bounds-m-i-2
bounds-m-i-2 c = search rules

bounds-m-1 : tie.Need-bounds-m-1
bounds-m-1 c = search rules

bounds-n-1 : tie.Need-bounds-n-1
bounds-n-1 c = search rules

bounds-n-j-2 : tie.Need-bounds-n-j-2
bounds-n-j-2 c = search rules

pub cell_spec : {M : Type 1} → statement M
cell_spec =
    tie.close (tie.spec mul-pairs bounds-m-i bounds-m-0 mul-pairs-2 bounds-n-0 bounds-n-j mul-pairs-3 bounds-m-i-2 bounds-m-1 mul-pairs-4 bounds-n-1 bounds-n-j-2 pairs-requires returns)
