use mathlib.Core.Path.{◌≡◌, refl, sym, ◌∙◌, ap}
use mathlib.Core.Bool.{true, false}
use lib.IntN.{ℤ, pos}
use mir.Syntax.{w64}
use mir.Facts.{to_z-of_z}
use borrow.Author.Rules.{rules}
use borrow.Author.Tests.{not-true, not-false}
use Rattle.integers.specs.lemmas.Size.{back}
use Rattle.region.specs.declared.Region.{Region}
use Rattle.region.specs.declared.Region.TheVariants as R
use Rattle.region.specs.Region.{accepted}
use Rattle.region.specs.Reach.{reach_of}
use Rattle.region.specs.Accepted.{disk-accepted}
use Rattle.region_extent.proofs.reach.Statement.{statement}
use Rattle.region_extent.proofs.reach.Tie as tie

is-accepted-requires : tie.Need-is_accepted-requires
is-accepted-requires c κs = search rules

refused : (r : Region) (u v : ℤ) → accepted r ≡ false → reach_of r u v ≡ pos 0
unfolding reach_of
refused (R.Rectangle r) u v h = rw (h, reach_of) refl
refused (R.Ellipse e) u v h = rw (h, reach_of) refl
refused (R.Slice s) u v h = rw (h, reach_of) refl

returns : tie.Need-returns-then-not-is_accepted
returns c = let s = c.args in sym (refused s.region s.u s.v (sym c.is_accepted.ensures ∙ c.if-not-is_accepted.true))

taken : (c : tie.Else-not-is_accepted) → accepted c.args.region ≡ true
taken c = sym c.is_accepted.ensures ∙ c.if-not-is_accepted.false

enum-known-region : tie.Need-enum_known-region
enum-known-region c = search rules

over-rectangle-requires : tie.Need-over_rectangle-requires
over-rectangle-requires c κs = search rules

enum-known-region-2 : tie.Need-enum_known-region-in-Ellipse-1
enum-known-region-2 c = search rules

over-ellipse-requires : tie.Need-over_ellipse-requires
over-ellipse-requires c κs = ap accepted (sym c.in-Ellipse.is) ∙ taken c.before

enum-known-region-3 : tie.Need-enum_known-region-in-Slice-1
enum-known-region-3 c = search rules

disk-requires : tie.Need-disk-requires
disk-requires c κs = search rules

over-ellipse-requires-2 : tie.Need-over_ellipse-requires-in-Slice
over-ellipse-requires-2 c κs =
    let k = c in
    rw c.disk.ensures (disk-accepted c.in-Slice.s (ap accepted (sym c.in-Slice.is) ∙ taken k.before.before))

returns-2 : tie.Need-returns-in-Rectangle
unfolding reach_of
returns-2 c =
    let k = c in
    let s = k in
    let a : accepted (R.Rectangle c.in-Rectangle.r) ≡ true = ap accepted (sym c.in-Rectangle.is) ∙ taken k.before.before in
    rw (c.in-Rectangle.is, a, reach_of) (back w64 c.over_rectangle.type_inv ∙ (simp (to_z-of_z c.ranges.u, to_z-of_z c.ranges.v) at c.over_rectangle.ensures))

returns-3 : tie.Need-returns-in-Ellipse
unfolding reach_of
returns-3 c =
    let k = c in
    let s = k in
    let a : accepted (R.Ellipse c.in-Ellipse.e) ≡ true = ap accepted (sym c.in-Ellipse.is) ∙ taken k.before.before in
    rw (c.in-Ellipse.is, a, reach_of) (back w64 c.over_ellipse.type_inv ∙ (simp (to_z-of_z c.ranges.u, to_z-of_z c.ranges.v) at c.over_ellipse.ensures))

returns-4 : tie.Need-returns-in-Slice
unfolding reach_of
returns-4 c =
    let d = c in
    let k = d in
    let s = k in
    let a : accepted (R.Slice c.in-Slice.s) ≡ true = ap accepted (sym c.in-Slice.is) ∙ taken k.before.before.before in
    rw (c.in-Slice.is, a, reach_of) (back w64 c.over_ellipse-in-Slice.type_inv ∙ (simp (c.disk.ensures, to_z-of_z c.ranges.u, to_z-of_z c.ranges.v) at c.over_ellipse-in-Slice.ensures))

pub reach_spec : {M : Type 1} → statement M
reach_spec =
    tie.close
    (tie.spec
    is-accepted-requires
    returns
    enum-known-region
    over-rectangle-requires
    enum-known-region-2
    over-ellipse-requires
    enum-known-region-3
    disk-requires
    over-ellipse-requires-2
    returns-2
    returns-3
    returns-4)
