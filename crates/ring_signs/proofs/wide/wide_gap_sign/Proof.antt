use mathlib.Core.Path.{◌≡◌, refl, sym, ◌∙◌, ap, ap₂}
use mathlib.Core.Bool.{Bool, true, false, not}
use Prim.Native.Nat.{◌-◌, ◌≤◌, ◌<◌}
use native.Mathlib.Omega.{arith}
use borrow.Author.Tests.{ltb-true, ltb-false}
use borrow.Author.Rules.{rules}
use Rattle.integers_wide.specs.Meaning.{size_of}
use Rattle.ring.specs.declared.Sign.TheVariants.{Plus}
use Rattle.ring.specs.Sign.{gap_sign, turn, turn-not, gap_minus, gap_plus, gap_step}
use Rattle.ring.specs.Short.{short-lower, long_some}
use Rattle.ring_signs.proofs.wide.wide_gap_sign.Statement.{statement}
use Rattle.ring_signs.proofs.wide.wide_gap_sign.Tie as tie

abbrev invariant-loop : tie.invariant-loop-x
invariant-loop x₀ y₀ odd₀ x y odd = turn odd (gap_sign (size_of x) (size_of y)) ≡ gap_sign (size_of x₀) (size_of y₀)

abbrev decreases-loop : tie.decreases-loop-x
decreases-loop x₀ y₀ odd₀ x y odd = size_of y

no : (b : Bool) → not b ≡ true → b ≡ false
no true e = sym e
no false e = refl

yes : (b : Bool) → not b ≡ false → b ≡ true
yes true e = refl
yes false e = sym e

-- x ≤ y, and not both are 0
not-above : (c : tie.Then-not-is_below invariant-loop decreases-loop)
    → let l = c.loop-x in
    (size_of l.x ≤ size_of l.y) × (0 < size_of l.y)
not-above c =
    let m = c in
    let l = m.loop-x in
    let h : size_of l.x ≤ size_of l.y = ltb-false _ _ (sym c.is_below.ensures ∙ no _ (ap not c.if-not-is_below.true)) in
    let k = long_some l.x l.y (sym m.are_short.ensures ∙ no _ (ap not m.loop-x-test.true)) in
    (h, omega arith)

above : (c : tie.Else-not-is_below invariant-loop decreases-loop) → let l = c.loop-x in size_of l.y < size_of l.x
above c = ltb-true _ _ (sym c.is_below.ensures ∙ yes _ (ap not c.if-not-is_below.false))

wider : (c : tie.Then-not-is_below-2 invariant-loop decreases-loop) → let l = c.loop-x in size_of l.y ≤ size_of l.x - size_of l.y
wider c =
    let l = c.loop-x in
    let e = c.less-e in
    let h : size_of l.y ≤ size_of e.result = ltb-false _ _ (sym c.is_below-in-loop-x.ensures ∙ no _ (ap not c.if-not-is_below-2.true)) in
    omega (arith, e.ensures)

narrower : (c : tie.Else-not-is_below-2 invariant-loop decreases-loop) → let l = c.loop-x in size_of l.x - size_of l.y < size_of l.y
narrower c =
    let l = c.loop-x in
    let e = c.less-e in
    let h : size_of e.result < size_of l.y = ltb-true _ _ (sym c.is_below-in-loop-x.ensures ∙ yes _ (ap not c.if-not-is_below-2.false)) in
    omega (arith, e.ensures)

loop-holds : tie.Need-loop-x-init invariant-loop decreases-loop
loop-holds c = refl

are-short-requires : tie.Need-are_short-requires invariant-loop decreases-loop
are-short-requires c κs = search rules

is-below-requires : tie.Need-is_below-requires invariant-loop decreases-loop
is-below-requires c κs = search rules

plus-requires : tie.Need-plus-requires invariant-loop decreases-loop
plus-requires c κs = search rules

returns : tie.Need-returns-then-not-is_below invariant-loop decreases-loop
returns c =
    let l = c.loop-x in
    let h = not-above c.before in
    c.plus.ensures ∙ turn-not l.odd Plus ∙ ap (turn l.odd) (sym (gap_minus (size_of l.x) (size_of l.y) h.0 h.1)) ∙ l.invariant

less-requires : tie.Need-less-e-requires invariant-loop decreases-loop
less-requires c κs = let h = above c in omega arith

is-below-requires-2 : tie.Need-is_below-requires-in-loop-x invariant-loop decreases-loop
is-below-requires-2 c κs = search rules

plus-requires-2 : tie.Need-plus-requires-then-not-is_below-2 invariant-loop decreases-loop
plus-requires-2 c κs = search rules

returns-2 : tie.Need-returns-then-not-is_below-2 invariant-loop decreases-loop
returns-2 c =
    let m = c.before.before.before.before in
    let l = m.loop-x in
    let h = above m in
    let k = wider c.before in
    c.plus-then-not-is_below-2.ensures ∙ ap (turn l.odd) (sym (gap_plus (size_of l.x) (size_of l.y) (omega arith) (omega arith))) ∙ l.invariant

less-requires-2 : tie.Need-less-x-requires invariant-loop decreases-loop
less-requires-2 c κs = let h = narrower c in rw c.less-e.ensures (omega arith)

loop-less : tie.Need-loop-x-smaller invariant-loop decreases-loop
loop-less c = let h = narrower c.before in rw c.less-e.ensures h

loop-again : tie.Need-loop-x-preserved invariant-loop decreases-loop
loop-again c =
    let e = c in
    let m = e.before in
    let l = m.loop-x in
    let x = size_of l.x in
    let y = size_of l.y in
    rw (c.less-x.ensures, e.less-e.ensures)
    (turn-not l.odd (gap_sign (y - (x - y)) (x - y)) ∙ ap (turn l.odd) (sym (gap_step x y (above m.before.before.before) (narrower c.before))) ∙ l.invariant)

gap-sign-requires : tie.Need-gap_sign-requires invariant-loop decreases-loop
gap-sign-requires c κs = search rules

flipped-requires : tie.Need-flipped-requires invariant-loop decreases-loop
flipped-requires c κs = search rules

returns-3 : tie.Need-returns invariant-loop decreases-loop
returns-3 c =
    let m = c in
    let l = m.loop-x in
    let h = short-lower l.x l.y (sym m.are_short.ensures ∙ yes _ (ap not m.loop-x-test.false)) in
    c.flipped.ensures ∙ ap (turn l.odd) (c.gap_sign.ensures ∙ ap₂ gap_sign h.0 h.1) ∙ l.invariant

pub wide_gap_sign_spec : {M : Type 1} → statement M
wide_gap_sign_spec =
    tie.close
    (tie.spec invariant-loop decreases-loop loop-holds are-short-requires is-below-requires plus-requires returns less-requires is-below-requires-2 plus-requires-2 returns-2 less-requires-2 loop-less loop-again gap-sign-requires flipped-requires returns-3)
