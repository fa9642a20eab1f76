-- The numbers so far, with those of the fields ahead, are all of them; and the fields ahead have their bytes.
use Rattle.std.proofs.Common.{◌≡◌, ◌+◌, ◌*◌, ◌≤◌, length, take, drop, ◌++◌}
use Rattle.record_forms.specs.Forms.{numbers_at}
use Rattle.record_text.specs.Fields.{sizes}
use Rattle.record_text.proofs.numbers.of.Given as goal

abbrev pub invariant-loop-i : goal.invariant-loop-i
invariant-loop-i l =
    (length l.values ≡ 8)
    × (l.at ≤ 4 * l.i)
    × (l.at + sizes (drop l.i l.form) ≤ length l.s)
    × (take l.i l.values ++ numbers_at (drop l.i l.form) l.s l.at ≡ numbers_at l.form l.s 0)
