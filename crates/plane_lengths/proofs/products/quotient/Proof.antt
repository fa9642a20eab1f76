use mathlib.Core.Path.{◌≡◌}
use Prim.Native.Nat.{ℕ, ◌+◌, ◌-◌, ◌^◌, ◌≤◌}
use native.Mathlib.Nat.{div-le_self}
use native.Mathlib.Omega.{arith}
use lib.IntN.{ℤ, pos, nat_abs, ◌+ℤ◌, ◌-ℤ◌, ◌*ℤ◌}
use lib.Signed.{yes_non_neg}
use mir.Syntax.{w64}
use mir.Val.{SFits, to_z, of_z}
use mir.Facts.{to_z-of_z, to_z_pos}
use borrow.Author.Rules.{rules}
use Rattle.integers.specs.Difference.{◌≼◌}
use Rattle.integers.specs.lemmas.Tests.{lt_z_true, lt_z_false}
use Rattle.integers.specs.lemmas.Size.{size-+, size--, size-*≤, size→fits}
use Rattle.plane_lengths.specs.Least.{ceil_div}
use Rattle.plane_lengths.specs.Rounded.{limit, quotient_low, quotient_high}
use Rattle.plane_lengths.proofs.products.quotient.Statement.{statement}
use Rattle.plane_lengths.proofs.products.quotient.Tie as tie

cast-s : tie.Need-overflow_cast-s
cast-s c = search rules

module _ (c : tie.Start) where
  abbrev s : ℤ
  s = c.args.t +ℤ pos limit *ℤ pos c.args.q

  q-is : to_z w64 c.args.q ≡ pos c.args.q
  q-is = to_z_pos w64 (omega (arith, c.requires.2))

  t-is : to_z w64 (of_z w64 c.args.t) ≡ c.args.t
  t-is = to_z-of_z c.ranges.t

  s-size : nat_abs s ≤ 2 ^ 62 + 2 ^ 51
  s-size = omega (arith, c.requires.0, size-+ c.args.t (pos limit *ℤ pos c.args.q), size-*≤ (pos limit) (pos c.args.q) limit 1000000 (omega arith) c.requires.2)

  s-fits : SFits w64 s
  s-fits = size→fits (omega (arith, s-size))

  product-fits : SFits w64 (pos limit *ℤ pos c.args.q)
  product-fits = size→fits (omega (arith, size-*≤ (pos limit) (pos c.args.q) limit 1000000 (omega arith) c.requires.2))

  s-is : to_z w64 (of_z w64 (to_z w64 (of_z w64 c.args.t) +ℤ to_z w64 (of_z w64 (pos limit *ℤ to_z w64 c.args.q)))) ≡ s
  s-is = rw (t-is, q-is, to_z-of_z product-fits) (to_z-of_z s-fits)

  -- the quotient as a natural number
  abbrev d : ℕ
  d = ceil_div (nat_abs s) c.args.q

  d-size : d ≤ 2 ^ 62 + 2 ^ 52
  d-size = omega (arith, s-size, c.requires.2, div-le_self (nat_abs s + (c.args.q - 1)) c.args.q)

  d-is : to_z w64 d ≡ pos d
  d-is = to_z_pos w64 (omega (arith, d-size))

  r-fits : SFits w64 (pos d -ℤ pos limit)
  r-fits = size→fits (omega (arith, size-- (pos d) (pos limit), d-size))

mul-s : tie.Need-overflow_mul-s
mul-s c = rw (q-is c) (product-fits c)

add-s : tie.Need-overflow_add-s
add-s c = rw (t-is c, q-is c, to_z-of_z (product-fits c)) (s-fits c)

returns : tie.Need-returns-then-s-lt0
returns c = quotient_low _ _ (lt_z_true _ _ (rw (s-is c.before) at c.if-s-lt0.true))

-- where s is not negative
nn : (c : tie.Else-s-lt0) → pos 0 ≼ s c.before
nn c = lt_z_false _ _ (rw (s-is c.before) at c.if-s-lt0.false)

cast-result : tie.Need-overflow_cast-result
cast-result c = rw (s-is c.before) (yes_non_neg (nn c), omega (arith, s-size c.before))

sub-result : tie.Need-overflow_sub-result
sub-result c = search rules

add-result : tie.Need-overflow_add-result
add-result c = rw (s-is c.before) (omega (arith, s-size c.before, c.requires.2))

div-result : tie.Need-nonzero_div-result
div-result c = search rules

cast-result-2 : tie.Need-overflow_cast-result-2
cast-result-2 c = rw (s-is c.before) (size→fits (omega (arith, d-size c.before)))

sub-result-2 : tie.Need-overflow_sub-result-2
sub-result-2 c = rw (s-is c.before, d-is c.before) (r-fits c.before)

returns-2 : tie.Need-returns
returns-2 c = rw (s-is c.before, d-is c.before, to_z-of_z (r-fits c.before)) (quotient_high _ _ c.requires.1 (nn c))

pub quotient_spec : {M : Type 1} → statement M
quotient_spec =
    tie.close
    (tie.spec
    cast-s
    mul-s
    add-s
    returns
    cast-result
    sub-result
    add-result
    div-result
    cast-result-2
    sub-result-2
    returns-2)
