-- All that the part program prints for an input: SPEC, "List program".
use Rattle.std.specs.Prelude.{List, ℕ, ℤ}
use Rattle.session_model.specs.Since.{full_of}
use Rattle.session_stages.specs.World.{world}
use Rattle.session_stages.specs.Session.{scale_of}
use Rattle.list_input.specs.Load.{Loaded, ready, refused, tooLong, load_of}
use Rattle.list_lines.specs.Lines.{refusal_line, too_long_line}
use Rattle.list_segment.specs.Part.{part_lines}

-- a line for each solution with a from lo to hi; a refusal and a longer input have their line alone, as in the list
abbrev pub part_for : ℤ → ℤ → Loaded → List ℕ
part_for lo hi (ready m) = part_lines (scale_of m) lo hi (full_of world m)
part_for lo hi (refused r p) = refusal_line r p
part_for lo hi tooLong = too_long_line

abbrev pub part_of : ℤ → ℤ → List ℕ → List ℕ
part_of lo hi bytes = part_for lo hi (load_of bytes)
