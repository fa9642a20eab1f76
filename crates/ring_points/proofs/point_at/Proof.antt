-- `point_at` meets its contract. Assumes nothing.
use Prim.Native.Nat.{◌+◌, ◌*◌}
use mathlib.Core.Path.{refl}
use lib.IntN.{pos}
use lib.ListN.{get_or}
use mir.Syntax.{w32}
use mir.Val.{SFits}
use mir.Facts.{to_z-of_z}
use Rattle.ring_points.specs.Slices.{point_ranked}
use borrow.Author.Rules.{rules}
use Rattle.ring_points.proofs.point_at.Statement.{statement}
use Rattle.ring_points.proofs.point_at.Tie as tie

mul-t3 : tie.Need-overflow_mul-result
mul-t3 c = search rules

mul-t4 : tie.Need-offset_bounds-points-i
mul-t4 c = search rules

shared-slice-copy-out-t6 : tie.Need-bounds-points-i
shared-slice-copy-out-t6 c = search rules

mul-t7 : tie.Need-overflow_mul-result-2
mul-t7 c = search rules

add-t8 : tie.Need-overflow_add-result
add-t8 c = search rules

mul-t9 : tie.Need-offset_bounds-points-i-2
mul-t9 c = search rules

shared-slice-copy-out-t11 : tie.Need-bounds-points-i-2
shared-slice-copy-out-t11 c = search rules

mul-t12 : tie.Need-overflow_mul-result-3
mul-t12 c = search rules

add-t13 : tie.Need-overflow_add-result-2
add-t13 c = search rules

mul-t14 : tie.Need-offset_bounds-points-i-3
mul-t14 c = search rules

shared-slice-copy-out-t16 : tie.Need-bounds-points-i-3
shared-slice-copy-out-t16 c = search rules

mul-t17 : tie.Need-overflow_mul-result-4
mul-t17 c = search rules

add-t18 : tie.Need-overflow_add-result-3
add-t18 c = search rules

mul-t19 : tie.Need-offset_bounds-points-i-4
mul-t19 c = search rules

shared-slice-copy-out-t21 : tie.Need-bounds-points-i-4
shared-slice-copy-out-t21 c = search rules

returns : tie.Need-returns
unfolding point_ranked
returns c =
    let s = c in
    let l = s.args.points.now in
    let n = 4 * s.args.i in
    let ha : SFits w32 (get_or l n (pos 0)) = search rules in
    let hb : SFits w32 (get_or l (n + 1) (pos 0)) = search rules in
    let hc : SFits w32 (get_or l (n + 2) (pos 0)) = search rules in
    let hd : SFits w32 (get_or l (n + 3) (pos 0)) = search rules in
    rw (to_z-of_z ha, to_z-of_z hb, to_z-of_z hc, to_z-of_z hd) refl

pub point_at_spec : {M : Type 1} → statement M
point_at_spec =
    tie.close
    (tie.spec
    mul-t3
    mul-t4
    shared-slice-copy-out-t6
    mul-t7
    add-t8
    mul-t9
    shared-slice-copy-out-t11
    mul-t12
    add-t13
    mul-t14
    shared-slice-copy-out-t16
    mul-t17
    add-t18
    mul-t19
    shared-slice-copy-out-t21
    returns)
