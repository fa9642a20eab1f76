use mathlib.Core.Path.{◌≡◌, refl, sym, ◌∙◌, ap}
use Prim.Native.Nat.{◌-◌}
use native.Mathlib.Omega.{arith}
use borrow.Author.Rules.{rules}
use Rattle.ring.specs.declared.Sign.TheVariants.{Plus}
use Rattle.ring.specs.Sign.{gap_sign, turn, turn-not, turn-zero, gap_zero, gap_minus, gap_plus, gap_step}
use Rattle.ring_signs.proofs.gap_sign.Statement.{statement}
use Rattle.ring_signs.proofs.gap_sign.Tie as tie

abbrev invariant-loop : tie.invariant-loop-y
invariant-loop a b x₀ y₀ odd₀ x y odd = turn odd (gap_sign x y) ≡ gap_sign a b

abbrev decreases-loop : tie.decreases-loop-y
decreases-loop a b x₀ y₀ odd₀ x y odd = y

loop-holds : tie.Need-loop-y-init invariant-loop decreases-loop
loop-holds c = refl

sub-e : tie.Need-overflow_sub-e invariant-loop decreases-loop
sub-e c = search rules

plus-requires : tie.Need-plus-requires invariant-loop decreases-loop
plus-requires c κs = search rules

returns : tie.Need-returns-then-y-e invariant-loop decreases-loop
returns c =
    let l = c.loop-y in
    c.plus.ensures ∙ ap (turn l.odd) (sym (gap_plus l.x l.y (omega arith) (omega arith))) ∙ l.invariant

sub-x : tie.Need-overflow_sub-x invariant-loop decreases-loop
sub-x c = search rules

loop-less : tie.Need-loop-y-smaller invariant-loop decreases-loop
loop-less c = search rules

loop-again : tie.Need-loop-y-preserved invariant-loop decreases-loop
loop-again c =
    let l = c.loop-y in
    turn-not l.odd (gap_sign (l.y - (l.x - l.y)) (l.x - l.y)) ∙ ap (turn l.odd) (sym (gap_step l.x l.y (omega arith) (omega arith))) ∙ l.invariant

returns-2 : tie.Need-returns-then-y-eq0 invariant-loop decreases-loop
returns-2 c =
    let l = c.loop-y in
    sym (turn-zero l.odd) ∙ ap (turn l.odd) (sym (gap_zero l.x l.y (omega arith) (omega arith))) ∙ l.invariant

plus-requires-2 : tie.Need-plus-requires-2 invariant-loop decreases-loop
plus-requires-2 c κs = search rules

returns-3 : tie.Need-returns invariant-loop decreases-loop
returns-3 c =
    let l = c.loop-y in
    c.plus-2.ensures ∙ turn-not l.odd Plus ∙ ap (turn l.odd) (sym (gap_minus l.x l.y (omega arith) (omega arith))) ∙ l.invariant

pub gap_sign_spec : {M : Type 1} → statement M
gap_sign_spec =
    tie.close
    (tie.spec
    invariant-loop
    decreases-loop
    loop-holds
    sub-e
    plus-requires
    returns
    sub-x
    loop-less
    loop-again
    returns-2
    plus-requires-2
    returns-3)
