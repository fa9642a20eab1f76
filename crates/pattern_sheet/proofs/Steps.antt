-- How the desk's readings are reached. Assumes nothing.
use mathlib.Core.Path.{◌≡◌, refl, sym, ap, ◌∙◌}
use mathlib.Core.Bool.{Bool, true, false, ◌&&◌}
use mathlib.Core.List.{List}
use Prim.Native.Nat.{ℕ, ◌≤◌}
use lib.Dec.{leb}
use borrow.Author.Tests.{le-leb}
use Rattle.record_ranges.specs.Ranges.{top_scale}
use Rattle.entry_equation.specs.Equation.{completes}
use Rattle.pattern_sheet.specs.declared.Sheet.{Sheet}
use Rattle.pattern_sheet.specs.declared.Refusal.TheVariants.{NotUnitary}
use Rattle.pattern_sheet.specs.declared.Reading.TheVariants.{Desk, Refused}
use Rattle.pattern_sheet.specs.Sheet.{k_at, u_at, t_at, sheet_at, desk_of}

-- ---- the desk's test
module _ (s : List ℕ) (h : k_at s ≤ top_scale) (x : Sheet) (e : x ≡ sheet_at s) (b : Bool) (f : b ≡ leb x.k top_scale && completes x.k x.u x.t) where
  tested : completes (k_at s) (u_at s) (t_at s) ≡ b
  unfolding sheet_at
  tested = sym (f ∙ ap (λ (x : Sheet). leb x.k top_scale && completes x.k x.u x.t) e ∙ rw (le-leb (k_at s) top_scale h) refl)

  pub desk_yes : b ≡ true → Desk x 38 ≡ desk_of s
  unfolding desk_of
  desk_yes g = ap (λ (x : Sheet). Desk x 38) e ∙ rw (tested ∙ g) refl

  pub desk_no : b ≡ false → Refused NotUnitary ≡ desk_of s
  unfolding desk_of
  desk_no g = rw (tested ∙ g) refl
