use mathlib.Core.Path.{◌≡◌, sym, ◌∙◌}
use mathlib.Core.Bool.{true, false, false≢true}
use Prim.Native.Nat.{ℕ, ◌+◌, ◌-◌, ◌/◌, ◌≤◌, ◌<◌}
use native.Mathlib.Omega.{arith}
use Rattle.line_rows.specs.Row.{coordinate, coordinate-mono, lower, lower_mono}
use Rattle.line_rows.specs.lemmas.Both.{is_false}
use Rattle.line_rows.proofs.least.Statement.{statement}
use Rattle.line_rows.proofs.least.Tie as tie

abbrev invariant-loop : tie.invariant-loop-lo
invariant-loop first second h x y top lo₀ hi₀ lo hi =
    (y ≤ lo) × (lo ≤ hi) × (hi ≤ top) × ((t : ℕ) → y ≤ t → t < lo → lower first second (coordinate h x) (coordinate h t) ≡ false)
    × (hi < top → lower first second (coordinate h x) (coordinate h hi) ≡ true)

abbrev decreases-loop : tie.decreases-loop-lo
decreases-loop first second h x y top lo₀ hi₀ lo hi = hi - lo

loop-holds : tie.Need-loop-lo-init invariant-loop decreases-loop
loop-holds c = (omega arith, omega arith, omega arith, (λ t k l. absurd (omega arith)), λ k. absurd (omega arith))

sub-mid : tie.Need-overflow_sub-mid invariant-loop decreases-loop
sub-mid c = omega arith

add-mid : tie.Need-overflow_add-mid invariant-loop decreases-loop
add-mid c = omega arith

lower-requires : tie.Need-lower-requires invariant-loop decreases-loop
lower-requires c κs =
    let n = c.requires.0 in
    record { first = n.first; second = n.second; middle = n.middle; row = n.row; column = omega arith }

loop-less : tie.Need-loop-lo-smaller-then-lower invariant-loop decreases-loop
loop-less c = omega arith

loop-again : tie.Need-loop-lo-preserved-then-lower invariant-loop decreases-loop
loop-again c =
    let l = c in
    (omega arith, omega arith, omega arith, l.loop-lo.invariant.3, λ k. sym c.lower.ensures ∙ c.if-lower.true)

add-lo : tie.Need-overflow_add-lo invariant-loop decreases-loop
add-lo c = omega arith

loop-less-2 : tie.Need-loop-lo-smaller invariant-loop decreases-loop
loop-less-2 c = omega arith

loop-again-2 : tie.Need-loop-lo-preserved invariant-loop decreases-loop
loop-again-2 c =
    let l = c in
    let s = l in
    let n = s.requires.0 in
    let h = s.args.h in
    let mid = l.loop-lo.lo + (l.loop-lo.hi - l.loop-lo.lo) / 2 in (
      omega arith,
      omega arith,
      omega arith,
      (λ t k b.
          is_false _
          (λ e.
          false≢true
          (sym (sym c.lower.ensures ∙ c.if-lower.false)
          ∙ lower_mono s.args.first s.args.second n.first.positive n.second.positive (coordinate h s.args.x) (coordinate h t) (coordinate h mid) (coordinate-mono h t mid (omega arith)) e))),
      l.loop-lo.invariant.4,
    )

returns : tie.Need-returns invariant-loop decreases-loop
returns c =
    let i = c.loop-lo.invariant in
    record { from = omega arith; within = omega arith; before = λ t k b. i.3 t k (omega arith); found = i.4 }

pub least_spec : {M : Type 1} → statement M
least_spec =
    tie.close
    (tie.spec
    invariant-loop
    decreases-loop
    loop-holds
    sub-mid
    add-mid
    lower-requires
    loop-less
    loop-again
    add-lo
    loop-less-2
    loop-again-2
    returns)
