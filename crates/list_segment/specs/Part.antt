-- The points of a list whose first coordinate lies in a range, and their lines: SPEC, "List program".
use Rattle.std.specs.Prelude.{Bool, ◌&&◌, cond, List, [], ◌∷◌, ℕ, ℤ}
use Rattle.std.specs.Int.Signed.{le_z}
use Rattle.ranks.specs.Handed.{flat}
use Rattle.walk_list.specs.Walk.{point_of, numbers_in}
use Rattle.list_lines.specs.Lines.{lines_of}

-- those of a list that pass a test
abbrev pub chosen : (ℕ → Bool) → List ℕ → List ℕ
chosen f [] = []
chosen f (r ∷ l) = cond (f r) (r ∷ chosen f l) (chosen f l)

-- lo ≤ a ≤ hi, by rank
abbrev pub within : ℤ → ℤ → ℕ → Bool
within lo hi r = le_z lo (point_of r).a && le_z (point_of r).a hi

-- the points of a list of ranks with a from lo to hi, one line for each
abbrev pub part_lines : ℕ → ℤ → ℤ → List ℕ → List ℕ
part_lines k lo hi l = lines_of k (flat numbers_in (chosen (within lo hi) l))
