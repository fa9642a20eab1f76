use Prim.Native.Nat.{◌*◌, ◌^◌, ◌≤◌}
use native.Mathlib.Nat.{mul-le-mul}
use native.Mathlib.Omega.{arith}
use mir.Syntax.{w64}
use borrow.Author.Rules.{rules}
use Rattle.integers.specs.lemmas.Size.{back}
use Rattle.plane_lengths.proofs.Casts.{widen_fits, widened}
use Rattle.plane_estimates.proofs.fraction.at_chord.Statement.{statement}
use Rattle.plane_estimates.proofs.fraction.at_chord.Tie as tie

cast-abs : tie.Need-overflow_cast-w
cast-abs c = widen_fits tt c.ranges.w

abs-requires : tie.Need-abs-h-requires
abs-requires c κs = search rules

inner-requires : tie.Need-inner-requires
inner-requires c κs = search rules

abs-requires-2 : tie.Need-abs-f-requires
abs-requires-2 c κs = search rules

-- n², the squared length of (x, y) and their product
module _ (c : tie.After-abs-f) where
  abbrev s : tie.Start
  s = c.before.before.before

  w-size : c.abs-h.result ≤ 1000000
  w-size = rw (c.abs-h.ensures, widened tt s.ranges.w) s.requires.1

  squares : s.args.n * s.args.n ≤ 10000
  squares = mul-le-mul s.requires.0 s.requires.0

  norm : c.abs-f.result ≤ 2 ^ 31
  norm = rw (c.abs-f.ensures, back w64 c.inner.type_inv) c.inner.ensures.1

  product : s.args.n * s.args.n * c.abs-f.result ≤ 2 ^ 45
  product = omega (arith, mul-le-mul squares norm)

mul-multiple : tie.Need-overflow_mul-m
mul-multiple c = omega (arith, squares c)

mul-multiple-2 : tie.Need-overflow_mul-m-2
mul-multiple-2 c = omega (arith, product c)

cross-requires : tie.Need-cross-requires
cross-requires c κs = search rules

inner-requires-2 : tie.Need-inner-requires-2
inner-requires-2 c κs = search rules

multiple-requires : tie.Need-multiple-g-requires
multiple-requires c κs =
    let k = c.before.before in
    (w-size k, product k, c.cross.ensures, rw (back w64 c.inner-2.type_inv) c.inner-2.ensures.1)

larger-requires : tie.Need-larger-requires
larger-requires c κs = search rules

larger-requires-2 : tie.Need-larger-requires-2
larger-requires-2 c κs = search rules

fraction-of-requires : tie.Need-fraction_of-requires
fraction-of-requires c κs = search rules

returns : tie.Need-returns
returns c = search rules

pub at_chord_spec : {M : Type 1} → statement M
at_chord_spec =
    tie.close
    (tie.spec
    cast-abs
    abs-requires
    inner-requires
    abs-requires-2
    mul-multiple
    mul-multiple-2
    cross-requires
    inner-requires-2
    multiple-requires
    larger-requires
    larger-requires-2
    fraction-of-requires
    returns)
