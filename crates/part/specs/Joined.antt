-- The parts joined are the list: for rising cut points from the least coordinate or below on to above the largest. Assumes nothing.
use Rattle.std.specs.Prelude.{◌≡◌, List, ◌++◌, ℕ, ◌^◌, ℤ, pos, neg_ℤ, length}
use Rattle.std.proofs.Common.{sym, ap, ◌∙◌}
use Rattle.integers.specs.Difference.{◌≼◌}
use Rattle.walk_list.specs.Walk.{full}
use Rattle.session_model.specs.Session.{early, walking}
use Rattle.session_model.specs.Session as Model
use Rattle.session_model.specs.Since.{full_of}
use Rattle.session_stages.specs.World.{world}
use Rattle.session_stages.specs.Session.{scale_of}
use Rattle.list_input.specs.Load.{ready, load_of}
use Rattle.list_lines.specs.Lines.{end_line}
use Rattle.list_output.specs.Output.{output_of, output_for, list_lines}
use Rattle.list_segment.specs.Part.{part_lines}
use Rattle.list_segment.specs.Joined.{Rises, last_of, parts_of, parts_whole, parts_none}
use Rattle.part.specs.Part.{part_of, part_for}

module _ (c : ℤ) (ds : List ℤ) (low : c ≼ neg_ℤ (pos (2 ^ 31))) (rises : Rises c ds) (high : pos (2 ^ 31) ≼ last_of c ds) where
  of-session : (m : Model.Session world) → parts_of (λ lo hi. part_lines (scale_of m) lo hi (full_of world m)) c ds ≡ list_lines (scale_of m) (full_of world m)
  unfolding full
  of-session (early p) = parts_none 0 c ds
  of-session (walking j w o) = parts_whole j j.k c ds low rises high

  -- the lines of an accepted job's list
  pub parts-joined : (bytes : List ℕ) (m : Model.Session world) → load_of bytes ≡ ready m → parts_of (λ lo hi. part_of lo hi bytes) c ds ≡ list_lines (scale_of m) (full_of world m)
  parts-joined bytes m e = ap (λ x. parts_of (λ lo hi. part_for lo hi x) c ds) e ∙ of-session m

  -- with the end line, the list program's output
  pub parts-output : (bytes : List ℕ) (m : Model.Session world) → load_of bytes ≡ ready m → parts_of (λ lo hi. part_of lo hi bytes) c ds ++ end_line (length (full_of world m)) ≡ output_of bytes
  parts-output bytes m e = ap (λ (l : List ℕ). l ++ end_line (length (full_of world m))) (parts-joined bytes m e) ∙ sym (ap output_for e)
