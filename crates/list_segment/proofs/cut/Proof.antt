-- `cut` meets its contract. The invariant: the first i points have an a up to hi. Assumes nothing.
use Prim.Native.Nat.{◌-◌, ◌≤◌, ◌<◌}
use mathlib.Core.Path.{◌≡◌, refl, sym, ap, ◌∙◌}
use mathlib.Core.Bool.{true, false}
use native.Mathlib.Numerals.{add-one}
use native.Mathlib.Omega.{arith}
use mir.Syntax.{w32}
use mir.Val.{SFits, to_z}
use mir.Facts.{to_z-of_z}
use borrow.Author.Rules.{rules}
use Rattle.list_segment.specs.Segment.{up_to}
use Rattle.list_segment.specs.lemmas.Cut.{led, led-next, led-stop, past, not_past}
use Rattle.list_segment.proofs.cut.Statement.{statement}
use Rattle.list_segment.proofs.cut.Tie as tie

abbrev invariant-loop : tie.invariant-loop-i
invariant-loop points n hi i₀ i = (i ≤ n) × (led (to_z w32 hi) points i ≡ i)

abbrev decreases-loop : tie.decreases-loop-i
decreases-loop points n hi i₀ i = n - i

loop-holds : tie.Need-loop-i-init invariant-loop decreases-loop
loop-holds c = (omega arith, refl)

point-at-requires : tie.Need-point_at-v-requires invariant-loop decreases-loop
point-at-requires c κs = search rules

returns : tie.Need-returns-then-hi-v invariant-loop decreases-loop
returns c =
    let t = c in
    let s = t in
    let f = to_z-of_z c.ranges.hi in
    let i = c.loop-i.invariant in
    let p = c in
    let v = c.point_at-v.result in
    let g : SFits w32 v.a = search rules in
    let e : up_to c.args.hi v ≡ false = past c.args.hi v (rw (f, to_z-of_z g) at c.if-hi-v.true) in
    sym (led-stop c.args.hi c.args.points.now c.loop-i.i c.args.n (search rules) c.requires (rw f at i.1) (ap (up_to c.args.hi) (sym c.point_at-v.ensures) ∙ e))

add-i : tie.Need-overflow_add-i invariant-loop decreases-loop
add-i c = search rules

loop-less : tie.Need-loop-i-smaller invariant-loop decreases-loop
loop-less c = search rules

loop-again : tie.Need-loop-i-preserved invariant-loop decreases-loop
loop-again c =
    let t = c in
    let s = t in
    let f = to_z-of_z c.ranges.hi in
    let i = c.loop-i.invariant in
    let p = c in
    let v = c.point_at-v.result in
    let g : SFits w32 v.a = search rules in
    let e : up_to c.args.hi v ≡ true = not_past c.args.hi v (rw (f, to_z-of_z g) at c.if-hi-v.false) in
    let q = c.requires in
    let h : c.loop-i.i < c.args.n = search rules in
    (omega arith, rw (f, add-one) (led-next c.args.hi c.args.points.now c.loop-i.i (omega arith) (rw f at i.1) (ap (up_to c.args.hi) (sym c.point_at-v.ensures) ∙ e)))

returns-2 : tie.Need-returns invariant-loop decreases-loop
returns-2 c =
    let t = c in
    let s = t in
    let i = c.loop-i.invariant in
    let n : c.loop-i.i ≡ c.args.n = search rules in
    rw (← n) (sym (rw (to_z-of_z c.ranges.hi) at i.1))

pub cut_spec : {M : Type 1} → statement M
cut_spec =
    tie.close
    (tie.spec
    invariant-loop
    decreases-loop
    loop-holds
    point-at-requires
    returns
    add-i
    loop-less
    loop-again
    returns-2)
