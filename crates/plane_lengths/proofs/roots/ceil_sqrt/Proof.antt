use mathlib.Core.Path.{sym}
use Prim.Native.Nat.{ℕ, ◌+◌, ◌-◌, ◌*◌, ◌/◌, ◌^◌, ◌≤◌, ◌<◌}
use native.Mathlib.Nat.{mul-le-mul}
use native.Mathlib.Omega.{arith}
use borrow.Author.Rules.{rules}
use Rattle.plane_lengths.specs.Least.{ceil_sqrt_is}
use Rattle.plane_lengths.proofs.roots.ceil_sqrt.Statement.{statement}
use Rattle.plane_lengths.proofs.roots.ceil_sqrt.Tie as tie

-- hi is wide enough, if it was ever moved, and nothing below lo is
abbrev invariant-loop : tie.invariant-loop-lo
invariant-loop n g lo₀ hi₀ lo hi = (lo ≤ hi) × (hi ≤ 2 ^ 30) × (hi < 2 ^ 30 → n ≤ hi * hi) × ((k : ℕ) → k < lo → k * k < n)

abbrev decreases-loop : tie.decreases-loop-lo
decreases-loop n g lo₀ hi₀ lo hi = hi - lo

near-root-requires : tie.Need-near_root-g-requires invariant-loop decreases-loop
near-root-requires c κs = search rules

is-root-requires : tie.Need-is_root-requires invariant-loop decreases-loop
is-root-requires c κs = search rules

returns : tie.Need-returns-then-is_root invariant-loop decreases-loop
returns c = sym (c.is_root.ensures c.if-is_root.true)

roof-requires : tie.Need-roof-hi-requires invariant-loop decreases-loop
roof-requires c κs = search rules

loop-holds : tie.Need-loop-lo-init invariant-loop decreases-loop
loop-holds c = (omega arith, c.roof-hi.ensures.high, c.roof-hi.ensures.enough, (λ k h. absurd (omega arith)))

sub-mid : tie.Need-overflow_sub-mid invariant-loop decreases-loop
sub-mid c = omega arith

add-mid : tie.Need-overflow_add-mid invariant-loop decreases-loop
add-mid c = omega arith

-- the middle is below 2³⁰, and its square below 2⁶⁰
abbrev mid : tie.In-loop-lo invariant-loop decreases-loop → ℕ
mid c = let l = c.loop-lo in l.lo + (l.hi - l.lo) / 2

mid-small : (c : tie.In-loop-lo invariant-loop decreases-loop) → mid c ≤ 2 ^ 30
mid-small c = omega arith

mul-if2 : tie.Need-overflow_mul-mid invariant-loop decreases-loop
mul-if2 c = omega (arith, mul-le-mul (mid-small c) (mid-small c))

loop-less : tie.Need-loop-lo-smaller-then-n-mid invariant-loop decreases-loop
loop-less c = omega arith

loop-again : tie.Need-loop-lo-preserved-then-n-mid invariant-loop decreases-loop
loop-again c = (omega arith, omega arith, (λ h. c.if-n-mid.true), c.loop-lo.invariant.3)

add-lo : tie.Need-overflow_add-lo invariant-loop decreases-loop
add-lo c = omega arith

loop-less-2 : tie.Need-loop-lo-smaller invariant-loop decreases-loop
loop-less-2 c = omega arith

loop-again-2 : tie.Need-loop-lo-preserved invariant-loop decreases-loop
loop-again-2 c =
    (omega arith, omega arith, c.loop-lo.invariant.2, λ k h. let l : k ≤ mid c.before = omega arith in omega (arith, mul-le-mul l l))

returns-2 : tie.Need-returns invariant-loop decreases-loop
returns-2 c =
    let l = c.loop-lo in
    sym (ceil_sqrt_is c.args.n l.hi (omega arith) l.invariant.2 (λ k h. l.invariant.3 k (omega arith)))

pub ceil_sqrt_spec : {M : Type 1} → statement M
ceil_sqrt_spec =
    tie.close
    (tie.spec
    invariant-loop
    decreases-loop
    near-root-requires
    is-root-requires
    returns
    roof-requires
    loop-holds
    sub-mid
    add-mid
    mul-if2
    loop-less
    loop-again
    add-lo
    loop-less-2
    loop-again-2
    returns-2)
