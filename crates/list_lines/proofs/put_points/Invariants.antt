-- The lines of the first i points stand at the start, and the head is that of the point before.
use Rattle.std.proofs.Common.{◌≡◌, ◌*◌, ◌≤◌, length, take}
use Rattle.text.specs.Append.{Appended}
use Rattle.list_lines.specs.Lines.{head_text, lines_of}
use Rattle.list_lines.proofs.put_points.Given as goal

abbrev pub invariant-loop-i : goal.invariant-loop-i
invariant-loop-i l =
    (l.at ≤ 70 * l.i)
    × Appended l.initial.out 0 (lines_of l.k (take (4 * l.i) l.points)) l.out l.at
    × (length l.head ≡ 36) × (l.length ≤ 36) × (take l.length l.head ≡ head_text l.last)
