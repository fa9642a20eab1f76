use mathlib.Core.Path.{◌≡◌, sym, ◌∙◌, ap, subst}
use mathlib.Core.Bool.{true, not}
use Prim.Native.Nat.{◌+◌, ◌*◌, ◌-◌, ◌^◌, ◌≤◌}
use native.Mathlib.Omega.{arith}
use borrow.Author.Rules.{rules}
use borrow.Author.Tests.{not-true}
use lib.IntN.{pos}
use mir.Syntax.{w64}
use mir.Val.{SFits}
use mir.Facts.{to_z-of_z}
use Rattle.integers.specs.lemmas.Size.{back, size→fits}
use Rattle.line_rows.specs.Row.{at, coordinate, below, pair_at}
use Rattle.line_rows.specs.Steps.{solved}
use Rattle.line_steps.specs.Line.{bound}
use Rattle.line_steps.specs.Bounds.{Within}
use Rattle.line_steps.specs.Strips.{size-within}
use Rattle.line_steps.specs.Past.{past_of}
use Rattle.line_steps.specs.Narrow.{NotBefore}
use Rattle.line_steps.specs.Sized.{Sized}
use Rattle.line_steps.specs.Scaled.{Before, point_of, back_of}
use Rattle.line_steps.specs.Walk.{Ahead, ahead-row, ahead-column, found_here, ended-top, ended-rows}
use Rattle.line_steps.proofs.pair_rows.walk.Statement.{statement}
use Rattle.line_steps.proofs.pair_rows.walk.Tie as tie

abbrev invariant-loop : tie.invariant-loop-x
invariant-loop c p f g rows half top x₀ y₀ x y = (x ≤ 2 * c.half) × (y ≤ 2 * c.half) × Ahead c p x y

abbrev decreases-loop : tie.decreases-loop-x
decreases-loop c p f g rows half top x₀ y₀ x y = (2 * c.half - x) * (2 ^ 33 + 1) + (2 * c.half - y)

mul-top : tie.Need-overflow_mul-top invariant-loop decreases-loop
mul-top c = let h = c.requires.0.half in omega arith

loop-holds : tie.Need-loop-x-init invariant-loop decreases-loop
loop-holds c = let b = c.requires.2 in (b.row, b.column, b.ahead)

abbrev start : tie.At-loop-x invariant-loop decreases-loop → tie.Start invariant-loop decreases-loop
start l = l.before.before.before.before

in-row-requires : tie.Need-in_row-r-requires invariant-loop decreases-loop
in-row-requires c κs = let l = c.before in let r = (start l).requires.0 in (r.first, r.second, r.half, l.loop-x.invariant.0, l.loop-x.invariant.1)

back-requires : tie.Need-back-z-requires invariant-loop decreases-loop
back-requires c κs =
    let l = c.before.before.before in
    let r = (start l).requires.0 in
    (r.origin-size, r.unit_size, r.half, l.loop-x.invariant.0, c.in_row-r.ensures.within)

-- the pair that was met
module _ (c : tie.After-back-z invariant-loop decreases-loop) where
  abbrev loop : tie.At-loop-x invariant-loop decreases-loop
  loop = c.before.before.before.before

  met : solved (start loop).args.c.f (start loop).args.c.g (pair_at (start loop).args.c.half loop.loop-x.x c.in_row-r.result) ≡ true
  met = c.in_row-r.ensures.found c.if-r-top.true

  box : Within (pos bound) c.back-z.result.p c.back-z.result.q
  box = subst (λ w. Within (pos bound) w.p w.q) (sym c.back-z.ensures) ((start loop).requires.0.inside _ met)

  size : Sized (2 ^ 60) c.back-z.result
  size = let b = box in record { p = omega (arith, size-within bound _ b.a-from b.a-to); q = omega (arith, size-within bound _ b.b-from b.b-to) }

  fits : SFits w64 c.back-z.result.p × SFits w64 c.back-z.result.q
  fits = let z = size in (size→fits (omega (arith, z.p)), size→fits (omega (arith, z.q)))

is-before-requires : tie.Need-is_before-requires invariant-loop decreases-loop
is-before-requires c κs = ((start (loop c)).requires.1, size c)

add-y : tie.Need-overflow_add-y invariant-loop decreases-loop
add-y c = let l = c.before.before.before.before.before.before in let h = (start l).requires.0.half in omega arith

loop-less : tie.Need-loop-x-smaller-then-is_before invariant-loop decreases-loop
loop-less c = let r = c in let f = r.in_row-r.ensures.from in let h = (start r.before.before.before.before.before.before).requires.0.half in omega arith

loop-again : tie.Need-loop-x-preserved-then-is_before invariant-loop decreases-loop
loop-again c =
    let w = c in
    let b = w.before in
    let r = b.before.before in
    let l = loop b.before in
    let s = start l in (
      l.loop-x.invariant.0,
      omega arith,
      ahead-column s.args.c s.requires.0 s.args.p l.loop-x.x l.loop-x.y _ l.loop-x.invariant.2 r.in_row-r.ensures (subst (λ v. Before v (point_of s.args.p)) b.back-z.ensures (w.is_before.ensures.0 c.if-is_before.true)),
    )

past-requires : tie.Need-past-requires invariant-loop decreases-loop
past-requires c κs = search rules

past-requires-2 : tie.Need-past-requires-else-is_before invariant-loop decreases-loop
past-requires-2 c κs = search rules

returns : tie.Need-returns-else-is_before invariant-loop decreases-loop
returns c =
    let e = c in
    let w = e in
    let b = w.before in
    let r = b.before.before in
    let l = loop b.before.before.before.before.before in
    let s = start l in
    found_here s.args.c s.requires.0 s.args.p l.loop-x.x l.loop-x.y _ l.loop-x.invariant.2 r.in_row-r.ensures b.if-r-top.true b.back-z.result b.back-z.ensures (w.is_before.ensures.1 e.if-is_before.false) _
    (c.past.ensures ∙ ap past_of (to_z-of_z (fits b.before.before.before.before.before).0)) (c.past-else-is_before.ensures ∙ ap past_of (to_z-of_z (fits b.before.before.before.before.before).1))

add-x : tie.Need-overflow_add-x invariant-loop decreases-loop
add-x c = let l = c.before.before.before in let h = (start l).requires.0.half in omega arith

coordinate-requires : tie.Need-coordinate-requires invariant-loop decreases-loop
coordinate-requires c κs = let l = c.before.before.before in let h = (start l).requires.0.half in (omega arith, omega arith)

below-requires : tie.Need-below-requires invariant-loop decreases-loop
below-requires c κs = rw (back w64 c.coordinate.type_inv) ((start c.before.before.before.before).requires.0.rows, record { p = c.coordinate.ensures.1; q = omega arith })

-- past the row: nothing of it is left
module _ (c : tie.After-below invariant-loop decreases-loop) where
  abbrev here : tie.At-loop-x invariant-loop decreases-loop
  here = c.before.before.before.before.before

  later : Ahead (start here).args.c (start here).args.p (here.loop-x.x + 1) 0
  later =
      let r = c in
      let s = start here in
      ahead-row s.args.c s.requires.0 s.args.p here.loop-x.x here.loop-x.y _ here.loop-x.invariant.2 r.in_row-r.ensures (let h = c.if-r-top.false in omega arith)

  tested : c.below.result ≡ below (start here).args.c.rows (at (coordinate (start here).args.c.half (here.loop-x.x + 1)) (pos 0))
  tested = c.below.ensures ∙ ap (λ x. below (start here).args.c.rows (at x (pos 0))) (back w64 c.coordinate.type_inv ∙ c.coordinate.ensures.0)

returns-2 : tie.Need-returns-then-not-below invariant-loop decreases-loop
returns-2 c =
    let b = c.before in
    let s = start (here b) in
    ended-rows s.args.c s.requires.0 s.args.p ((here b).loop-x.x + 1) 0 (later b) (sym (tested b) ∙ not-true _ (ap not c.if-not-below.true))

loop-less-2 : tie.Need-loop-x-smaller invariant-loop decreases-loop
loop-less-2 c = let h = (start (here c.before)).requires.0.half in omega arith

loop-again-2 : tie.Need-loop-x-preserved invariant-loop decreases-loop
loop-again-2 c = (omega arith, omega arith, later c.before)

returns-3 : tie.Need-returns invariant-loop decreases-loop
returns-3 c =
    let l = c.before in
    let s = start l in
    ended-top s.args.c s.requires.0 s.args.p l.loop-x.x l.loop-x.y l.loop-x.invariant.2 (let h = c.loop-x-test.false in omega arith)

pub walk_spec : {M : Type 1} → statement M
walk_spec =
    tie.close
    (tie.spec
    invariant-loop
    decreases-loop
    mul-top
    loop-holds
    in-row-requires
    back-requires
    is-before-requires
    add-y
    loop-less
    loop-again
    past-requires
    past-requires-2
    returns
    add-x
    coordinate-requires
    below-requires
    returns-2
    loop-less-2
    loop-again-2
    returns-3)
