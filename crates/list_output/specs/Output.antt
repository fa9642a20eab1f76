-- All that the list program prints for an input: SPEC, "List program".
use Rattle.std.specs.Prelude.{List, ◌++◌, ℕ, length}
use Rattle.ranks.specs.Handed.{flat}
use Rattle.walk_list.specs.Walk.{numbers_in}
use Rattle.session_model.specs.Since.{full_of}
use Rattle.session_stages.specs.World.{world}
use Rattle.list_input.specs.Load.{Loaded, ready, refused, tooLong, load_of}
use Rattle.list_lines.specs.Lines.{lines_of, end_line, refusal_line, too_long_line}
use Rattle.session_stages.specs.Session.{scale_of}

-- the points of a list of ranks, one line for each
abbrev pub list_lines : ℕ → List ℕ → List ℕ
list_lines k l = lines_of k (flat numbers_in l)

-- a line for each solution, then the line of their number; a refusal and a longer input have their line alone
abbrev pub output_for : Loaded → List ℕ
output_for (ready m) = list_lines (scale_of m) (full_of world m) ++ end_line (length (full_of world m))
output_for (refused r p) = refusal_line r p
output_for tooLong = too_long_line

abbrev pub output_of : List ℕ → List ℕ
output_of bytes = output_for (load_of bytes)
