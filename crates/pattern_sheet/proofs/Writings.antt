-- How each answer of a writing is reached. Assumes nothing.
use Rattle.std.specs.Prelude.{Ok, Err}
use mathlib.Core.Path.{◌≡◌, refl}
use mathlib.Core.Bool.{true, false}
use mathlib.Core.List.{List}
use Prim.Native.Nat.{ℕ, ◌≤◌, ◌<◌}
use native.Mathlib.Omega.{arith}
use lib.Dec.{leb}
use lib.ListN.{length}
use borrow.Author.Tests.{le-leb, lt-leb}
use Rattle.record_ranges.specs.Ranges.{top_scale}
use Rattle.entry_equation.specs.Equation.{completes}
use Rattle.text.specs.Written.{written}
use Rattle.text.proofs.Writing.{put-not}
use Rattle.pattern_sheet.specs.declared.Sheet.{Sheet}
use Rattle.pattern_sheet.specs.declared.Refusal.TheVariants.{OutOfRange, NotUnitary, NoRoom}
use Rattle.pattern_sheet.specs.Write.{bytes_of, length-sheet, writing_of, slice_after, Writes}

module _ (s : Sheet) (b : List ℕ) where
  pub write_scale : leb s.k top_scale ≡ false → Writes s b b (Err OutOfRange)
  unfolding writing_of slice_after
  write_scale e = record { answers = rw e refl; slice = rw e refl }

  module _ (e : leb s.k top_scale ≡ true) where
    pub write_equation : completes s.k s.u s.t ≡ false → Writes s b b (Err NotUnitary)
    unfolding writing_of slice_after
    write_equation f = record { answers = rw (e, f) refl; slice = rw (e, f) refl }

    module _ (f : completes s.k s.u s.t ≡ true) where
      pub write_full : length b < 38 → Writes s b b (Err NoRoom)
      unfolding writing_of slice_after
      write_full h = record {
        answers = rw (e, f, lt-leb 38 (length b) h) refl;
        slice = rw (e, f) (put-not b 0 (bytes_of s) (omega (arith, length-sheet s))).0;
      }

      pub write_done : 38 ≤ length b → {b' : List ℕ} → b' ≡ written b 0 (bytes_of s) → Writes s b b' (Ok 38)
      unfolding writing_of slice_after
      write_done h g = record { answers = rw (e, f, le-leb 38 (length b) h) refl; slice = rw (e, f) g }
