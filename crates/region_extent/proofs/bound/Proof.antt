use mathlib.Core.Path.{◌≡◌, sym, ◌∙◌, ap}
use mathlib.Core.Bool.{true}
use lib.IntN.{ℤ}
use mir.Syntax.{w64}
use mir.Facts.{to_z-of_z}
use Rattle.integers.specs.lemmas.Size.{back}
use Rattle.region.specs.declared.Region.{Region}
use Rattle.region.specs.Region.{accepted}
use Rattle.region.specs.Reach.{reach_of}
use Rattle.region.specs.ReachOver.{Bounds, reach_bounds}
use borrow.Author.Rules.{rules}
use Rattle.region_extent.proofs.bound.Statement.{statement}
use Rattle.region_extent.proofs.bound.Tie as tie

enum-known-region : tie.Need-enum_known-region
enum-known-region c = search rules

over-rectangle-requires : tie.Need-over_rectangle-requires
over-rectangle-requires c κs = search rules

enum-known-region-2 : tie.Need-enum_known-region-in-Ellipse-1
enum-known-region-2 c = search rules

over-ellipse-requires : tie.Need-over_ellipse-requires
over-ellipse-requires c κs = ap accepted (sym c.in-Ellipse.is) ∙ c.requires.0

enum-known-region-3 : tie.Need-enum_known-region-in-Slice-1
enum-known-region-3 c = search rules

over-slice-requires : tie.Need-over_slice-requires
over-slice-requires c κs =
    let s = c in
    (ap accepted (sym c.in-Slice.is) ∙ s.requires.0, rw (to_z-of_z s.ranges.u) s.requires.1, rw (to_z-of_z s.ranges.v) s.requires.2)

-- a reach is a bound
reached : (s : tie.Start) {g : Region} {r : ℤ} → s.args.region ≡ g → (accepted g ≡ true → r ≡ reach_of g s.args.u s.args.v) → Bounds s.args.region s.args.u s.args.v r
reached s d e = rw (e (ap accepted (sym d) ∙ s.requires.0), ← d) (reach_bounds s.args.region s.args.u s.args.v s.requires.0 s.requires.1 s.requires.2)

returns : tie.Need-returns-in-Rectangle
unfolding reach_of
returns c =
    let k = c in
    let s = k.before.before in
    reached s k.in-Rectangle.is (λ h. rw (h, reach_of) (back w64 c.over_rectangle.type_inv ∙ (simp (to_z-of_z s.ranges.u, to_z-of_z s.ranges.v) at c.over_rectangle.ensures)))

returns-2 : tie.Need-returns-in-Ellipse
unfolding reach_of
returns-2 c =
    let k = c in
    let s = k.before.before in
    reached s k.in-Ellipse.is (λ h. rw (h, reach_of) (back w64 c.over_ellipse.type_inv ∙ (simp (to_z-of_z s.ranges.u, to_z-of_z s.ranges.v) at c.over_ellipse.ensures)))

returns-3 : tie.Need-returns-in-Slice
returns-3 c =
    let k = c in
    let s = k in
    rw (back w64 c.over_slice.type_inv, k.in-Slice.is) (simp (to_z-of_z s.ranges.u, to_z-of_z s.ranges.v) at c.over_slice.ensures)

pub bound_spec : {M : Type 1} → statement M
bound_spec =
    tie.close
    (tie.spec
    enum-known-region
    over-rectangle-requires
    enum-known-region-2
    over-ellipse-requires
    enum-known-region-3
    over-slice-requires
    returns
    returns-2
    returns-3)
