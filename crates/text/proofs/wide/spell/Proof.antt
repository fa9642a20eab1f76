-- `spell` meets its contract. The invariant: the digits of what is left, and those that stand in place, are all digits. Assumes nothing.
use Prim.Native.Nat.{◌≤◌, ◌<◌, ◌^◌}
use mathlib.Core.Path.{◌≡◌, sym, ◌∙◌}
use mathlib.Core.List.{◌++◌}
use native.Mathlib.Nat.{le_of_eq}
use native.Mathlib.Omega.{arith}
use mir.Syntax.{w64}
use mir.Val.{Fits}
use borrow.Author.Rules.{rules}
use borrow.Author.Tests.{leb-true, leb-false}
use lib.ListN.{length, drop, length-set}
use Rattle.text.specs.Decimal.{decimal}
use Rattle.integers_wide.specs.Meaning.{size_of}
use Rattle.text.proofs.Words.{value-below, value-one, digit-fits, fewer, spelt_more, spelt, spelt_none}
use Rattle.text.proofs.wide.spell.Statement.{statement}
use Rattle.text.proofs.wide.spell.Tie as tie

abbrev invariant-loop : tie.invariant-loop-t
invariant-loop digits₀ i₀ rest₀ digits i rest = (1 ≤ i) × (i ≤ 39) × (length digits ≡ 39) × (size_of rest < 10 ^ i) × (decimal (size_of rest₀) ≡ decimal (size_of rest) ++ drop i digits)

abbrev decreases-loop : tie.decreases-loop-t
decreases-loop digits₀ i₀ rest₀ digits i rest = i

loop-holds : tie.Need-loop-t-init invariant-loop decreases-loop
loop-holds c =
    let s = c in
    let n = s.args.n in
    let h : Fits w64 n.hi = search rules in
    let l : Fits w64 n.lo = search rules in
    (search rules, search rules, s.requires, value-below n h.fits l.fits, spelt_none (size_of n) s.args.digits.now 39 (le_of_eq s.requires))

has-tens-requires : tie.Need-has_tens-requires invariant-loop decreases-loop
has-tens-requires c κs = search rules

divided-requires : tie.Need-divided-t-requires invariant-loop decreases-loop
divided-requires c κs = search rules

sub-i : tie.Need-overflow_sub-i invariant-loop decreases-loop
sub-i c = search rules

add-digits : tie.Need-overflow_add-digits invariant-loop decreases-loop
add-digits c = let d = c.divided-t.ensures.1 in record { fits = omega arith }

slice-write-digits : tie.Need-bounds-digits-i invariant-loop decreases-loop
slice-write-digits c = search rules

loop-less : tie.Need-loop-t-smaller invariant-loop decreases-loop
loop-less c = search rules

loop-again : tie.Need-loop-t-preserved invariant-loop decreases-loop
loop-again c =
    let t = c in
    let h = t in
    let l = h in
    let inv = l.loop-t.invariant in
    let n = size_of l.args.n in
    let rest = size_of l.loop-t.rest in
    let tens : 10 ≤ rest = leb-true 10 rest (sym h.has_tens.ensures ∙ t.loop-t-test.true) in
    let f = fewer l.loop-t.i rest tens inv.3 in (
      omega arith,
      omega arith,
      rw length-set inv.2,
      rw t.divided-t.ensures.0 f.1,
      rw (t.divided-t.ensures.0, t.divided-t.ensures.1) (spelt_more n rest l.loop-t.digits l.loop-t.i inv.0 (omega arith) inv.4 tens),
    )

sub-i-2 : tie.Need-overflow_sub-i-2 invariant-loop decreases-loop
sub-i-2 c = search rules

-- what is left has one digit
one : (c : tie.After-struct_known-2-1 invariant-loop decreases-loop) → size_of c.loop-t.rest < 10
one c =
    let h = c in
    leb-false 10 (size_of h.loop-t.rest) (sym h.has_tens.ensures ∙ c.loop-t-test.false)

cast-digits : tie.Need-overflow_cast-digits invariant-loop decreases-loop
cast-digits c = record { fits = (digit-fits c.loop-t.rest (one c)).0 }

add-digits-2 : tie.Need-overflow_add-digits-2 invariant-loop decreases-loop
add-digits-2 c = record { fits = (digit-fits c.loop-t.rest (one c)).1 }

slice-write-digits-2 : tie.Need-bounds-digits-i-2 invariant-loop decreases-loop
slice-write-digits-2 c = search rules

same_length : tie.Need-shape_of-digits invariant-loop decreases-loop
same_length c = let l = c in rw length-set (l.loop-t.invariant.2 ∙ sym l.requires)

returns : tie.Need-returns invariant-loop decreases-loop
returns c =
    let l = c in
    let inv = l.loop-t.invariant in
    let n = size_of l.args.n in
    (omega arith, rw (value-one l.loop-t.rest (one c)) (spelt n (size_of l.loop-t.rest) l.loop-t.digits l.loop-t.i inv.0 (omega arith) inv.4 (one c)))

pub spell_spec : {M : Type 1} → statement M
spell_spec =
    tie.close
    (tie.spec
    invariant-loop
    decreases-loop
    loop-holds
    has-tens-requires
    divided-requires
    sub-i
    add-digits
    slice-write-digits
    loop-less
    loop-again
    sub-i-2
    cast-digits
    add-digits-2
    slice-write-digits-2
    same_length
    returns)
