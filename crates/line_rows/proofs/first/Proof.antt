use mathlib.Core.Path.{◌≡◌, sym, ◌∙◌, ap}
use mathlib.Core.Bool.{Bool, true, false, false≢true}
use Prim.Native.Nat.{ℕ, ◌+◌, ◌-◌, ◌/◌, ◌≤◌, ◌<◌}
use native.Mathlib.Omega.{arith}
use lib.IntN.{pos}
use mir.Syntax.{w64}
use Rattle.integers.specs.lemmas.Size.{back}
use Rattle.line_rows.specs.declared.Band.{Band}
use Rattle.line_rows.specs.Row.{at, coordinate, coordinate-mono, above, above-mono, whole-⊑, Small}
use Rattle.line_rows.specs.lemmas.Both.{is_false}
use Rattle.line_rows.proofs.first.Statement.{statement}
use Rattle.line_rows.proofs.first.Tie as tie

-- lo ≤ m (t − h), which holds from some t on
abbrev test : Band → ℕ → ℕ → Bool
test s h t = above s (at (coordinate h t) (pos 0))

test-mono : (s : Band) (h t u : ℕ) → Small s → t ≤ u → test s h t ≡ true → test s h u ≡ true
test-mono s h t u k l e = above-mono s (at (coordinate h t) (pos 0)) (at (coordinate h u) (pos 0)) k.positive (whole-⊑ (coordinate h t) (coordinate h u) (coordinate-mono h t u l)) e

abbrev invariant-loop : tie.invariant-loop-lo
invariant-loop s h top lo₀ hi₀ lo hi = (lo ≤ hi) × (hi ≤ top) × ((t : ℕ) → t < lo → test s h t ≡ false) × (hi < top → test s h hi ≡ true)

abbrev decreases-loop : tie.decreases-loop-lo
decreases-loop s h top lo₀ hi₀ lo hi = hi - lo

loop-holds : tie.Need-loop-lo-init invariant-loop decreases-loop
loop-holds c = (omega arith, omega arith, (λ t h. absurd (omega arith)), λ h. absurd (omega arith))

sub-mid : tie.Need-overflow_sub-mid invariant-loop decreases-loop
sub-mid c = omega arith

add-mid : tie.Need-overflow_add-mid invariant-loop decreases-loop
add-mid c = omega arith

abbrev mid : tie.In-loop-lo invariant-loop decreases-loop → ℕ
mid c = let l = c.loop-lo in l.lo + (l.hi - l.lo) / 2

coordinate-requires : tie.Need-coordinate-requires invariant-loop decreases-loop
coordinate-requires c κs = (omega arith, omega arith)

above-requires : tie.Need-above-requires invariant-loop decreases-loop
above-requires c κs = rw (back w64 c.coordinate.type_inv) (c.requires.0, record { p = c.coordinate.ensures.1; q = omega arith })

-- what the test in the loop says
tested : (c : tie.After-above invariant-loop decreases-loop) → let s = c.args in c.above.result ≡ test s.s s.h (mid c.before.before)
tested c = c.above.ensures ∙ ap (λ x. above c.args.s (at x (pos 0))) (back w64 c.coordinate.type_inv ∙ c.coordinate.ensures.0)

loop-less : tie.Need-loop-lo-smaller-then-above invariant-loop decreases-loop
loop-less c = omega arith

loop-again : tie.Need-loop-lo-preserved-then-above invariant-loop decreases-loop
loop-again c = (omega arith, omega arith, c.loop-lo.invariant.2, λ h. sym (tested c.before) ∙ c.if-above.true)

add-lo : tie.Need-overflow_add-lo invariant-loop decreases-loop
add-lo c = omega arith

loop-less-2 : tie.Need-loop-lo-smaller invariant-loop decreases-loop
loop-less-2 c = omega arith

loop-again-2 : tie.Need-loop-lo-preserved invariant-loop decreases-loop
loop-again-2 c =
    let l = c in
    let a = l.args in
    let m = mid c.before.before.before in
    let no : test a.s a.h m ≡ false = sym (tested c.before) ∙ c.if-above.false in
    (omega arith, omega arith, (λ t h. is_false _ (λ e. false≢true (sym no ∙ test-mono a.s a.h t m l.requires.0 (omega arith) e))), l.loop-lo.invariant.3)

returns : tie.Need-returns invariant-loop decreases-loop
returns c =
    let i = c.loop-lo.invariant in
    record { from = omega arith; within = omega arith; before = λ t k h. i.2 t (omega arith); found = i.3 }

pub first_spec : {M : Type 1} → statement M
first_spec =
    tie.close
    (tie.spec
    invariant-loop
    decreases-loop
    loop-holds
    sub-mid
    add-mid
    coordinate-requires
    above-requires
    loop-less
    loop-again
    add-lo
    loop-less-2
    loop-again-2
    returns)
