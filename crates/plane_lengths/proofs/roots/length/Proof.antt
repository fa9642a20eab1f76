use mathlib.Core.Path.{◌≡◌, subst₂}
use Prim.Native.Nat.{ℕ, ◌+◌, ◌*◌, ◌≤◌}
use native.Mathlib.Nat.{mul-le-mul}
use native.Mathlib.Omega.{arith}
use lib.IntN.{nat_abs}
use mir.Facts.{to_z-of_z}
use borrow.Author.Rules.{rules}
use Rattle.plane_lengths.specs.Least.{ceil_sqrt-≤}
use Rattle.plane_lengths.specs.Least.{ceil_sqrt-enough}
use Rattle.plane_lengths.proofs.roots.length.Statement.{statement}
use Rattle.plane_lengths.proofs.roots.length.Tie as tie

abs-requires : tie.Need-abs-x-requires
abs-requires c κs = search rules

abs-requires-2 : tie.Need-abs-y-requires
abs-requires-2 c κs = search rules

-- the three squares, of the numbers that the machine has
module _ (c : tie.After-abs-y) where
  abbrev s : tie.Start
  s = c.before.before

  abbrev n : ℕ
  n = s.args.n

  abbrev x : ℕ
  x = c.abs-x.result

  abbrev y : ℕ
  y = c.abs-y.result

  x-is : x ≡ nat_abs s.args.a
  x-is = rw (to_z-of_z s.ranges.a) at c.abs-x.ensures

  y-is : y ≡ nat_abs s.args.b
  y-is = rw (to_z-of_z s.ranges.b) at c.abs-y.ensures

  nn : n * n ≤ 10000
  nn = mul-le-mul s.requires.0 s.requires.0

  xx : x * x ≤ 25000000000000
  xx = let h : x ≤ 5000000 = omega (arith, x-is, s.requires.1) in mul-le-mul h h

  yy : y * y ≤ 25000000000000
  yy = let h : y ≤ 5000000 = omega (arith, y-is, s.requires.2) in mul-le-mul h h

  sum : x * x + y * y ≤ 50000000000000
  sum = omega (arith, xx, yy)

  whole : n * n * (x * x + y * y) ≤ 500000000000000000
  whole = mul-le-mul nn sum

mul-ceil-sqrt : tie.Need-overflow_mul-m
mul-ceil-sqrt c = omega (arith, nn c)

mul-ceil-sqrt-2 : tie.Need-overflow_mul-x
mul-ceil-sqrt-2 c = omega (arith, xx c)

mul-ceil-sqrt-3 : tie.Need-overflow_mul-y
mul-ceil-sqrt-3 c = omega (arith, yy c)

add-ceil-sqrt : tie.Need-overflow_add-x
add-ceil-sqrt c = omega (arith, sum c)

mul-ceil-sqrt-4 : tie.Need-overflow_mul-m-2
mul-ceil-sqrt-4 c = omega (arith, whole c)

ceil-sqrt-requires : tie.Need-ceil_sqrt-requires
ceil-sqrt-requires c κs = search rules

returns : tie.Need-returns
returns c =
    let k = c.before in
    let m = c.ceil_sqrt.result in
    let e = c.ceil_sqrt.ensures in
    let h : n k * n k * (x k * x k + y k * y k) ≤ m * m = rw e (ceil_sqrt-enough (n k * n k * (x k * x k + y k * y k)) (omega (arith, whole k))) in
    record { enough = subst₂ (λ (a b : ℕ). n k * n k * (a * a + b * b) ≤ m * m) (x-is k) (y-is k) h; size = rw e (ceil_sqrt-≤ _) }

pub length_spec : {M : Type 1} → statement M
length_spec =
    tie.close
    (tie.spec
    abs-requires
    abs-requires-2
    mul-ceil-sqrt
    mul-ceil-sqrt-2
    mul-ceil-sqrt-3
    add-ceil-sqrt
    mul-ceil-sqrt-4
    ceil-sqrt-requires
    returns)
