use mathlib.Core.Path.{◌∙◌}
use mir.Syntax.{w32, w64}
use mir.Val.{SFits}
use mir.Facts.{to_z-of_z}
use Rattle.integers.specs.lemmas.Size.{back}
use Rattle.region.specs.Accepted.{slice-limits, disk-accepted}
use Rattle.region.specs.ReachOver.{disk-bounds}
use borrow.Author.Rules.{rules}
use Rattle.region_extent.proofs.half.over_slice.Statement.{statement}
use Rattle.region_extent.proofs.half.over_slice.Tie as tie

disk-requires : tie.Need-disk-requires
disk-requires c κs = search rules

over-ellipse-requires : tie.Need-over_ellipse-requires
over-ellipse-requires c κs = rw c.disk.ensures (disk-accepted c.args.s c.requires.0)

point-requires : tie.Need-point-d-requires
point-requires c κs =
    let s = c in
    let r = back w64 c.over_ellipse.type_inv ∙ (simp (c.disk.ensures, to_z-of_z s.ranges.u, to_z-of_z s.ranges.v) at c.over_ellipse.ensures) in
    (s.requires.0, rw (to_z-of_z s.ranges.u, to_z-of_z s.ranges.v, r) (disk-bounds s.args.s s.args.u s.args.v s.requires.0 s.requires.1 s.requires.2))

at-chord-requires : tie.Need-at_chord-f-requires
at-chord-requires c κs =
    let s = c in
    let l = slice-limits s.args.s s.requires.0 in
    let h : SFits w32 s.args.s.w = search rules in
    (l.n-high, rw (to_z-of_z h) l.w-size)

sum-requires : tie.Need-sum-requires
sum-requires c κs =
    let s = c in
    let e = c.at_chord-f.ensures in
    let h = c.point-d in
    (s.requires.0, e.p-size, e.q-low, e.q-high, rw (to_z-of_z s.ranges.u, to_z-of_z s.ranges.v, back w64 h.type_inv) (simp (to_z-of_z s.ranges.u, to_z-of_z s.ranges.v) at h.ensures))

returns : tie.Need-returns
returns c = let s = c in rw (back w64 c.sum.type_inv) (simp (to_z-of_z s.ranges.u, to_z-of_z s.ranges.v) at c.sum.ensures)

pub over_slice_spec : {M : Type 1} → statement M
over_slice_spec =
    tie.close (tie.spec disk-requires over-ellipse-requires point-requires at-chord-requires sum-requires returns)
