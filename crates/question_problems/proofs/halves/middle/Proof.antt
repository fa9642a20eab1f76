use Prim.Native.Nat.{◌≤◌}
use native.Mathlib.Omega.{arith}
use lib.IntN.{ℤ, nat_abs, ◌+ℤ◌}
use mir.Syntax.{w64}
use mir.Val.{SFits}
use mir.Facts.{to_z-of_z}
use Rattle.integers.specs.Parity.{half}
use Rattle.integers.specs.lemmas.Size.{size-+, size→fits}
use Rattle.operator.specs.lemmas.Halves.{size-half}
use Rattle.question_strips.specs.Strips.{end_size}
use Rattle.question_problems.proofs.halves.middle.Statement.{statement}
use Rattle.question_problems.proofs.halves.middle.Tie as tie

module _ (s : tie.Start) where
  abbrev x : ℤ
  x = s.args.x

  abbrev y : ℤ
  y = s.args.y

  sum-size : nat_abs (half x +ℤ half y) ≤ end_size
  sum-size = omega (arith, size-half x, size-half y, s.requires.0, s.requires.1, size-+ (half x) (half y))

  x-half : SFits w64 (half x)
  x-half = size→fits (omega (arith, size-half x, s.requires.0))

  y-half : SFits w64 (half y)
  y-half = size→fits (omega (arith, size-half y, s.requires.1))

  sum : SFits w64 (half x +ℤ half y)
  sum = size→fits (omega (arith, sum-size))

div-result : tie.Need-nonzero_div-result
div-result c = let s = c.before in (omega arith, simp (to_z-of_z c.ranges.x) (x-half s))

div-result-2 : tie.Need-nonzero_div-result-else-x-y
div-result-2 c = let s = c.before in (omega arith, simp (to_z-of_z c.ranges.y) (y-half s))

add-result : tie.Need-overflow_add-result
add-result c = let s = c.before in simp (to_z-of_z c.ranges.x, to_z-of_z c.ranges.y, to_z-of_z (x-half s), to_z-of_z (y-half s)) (sum s)

returns : tie.Need-returns-then-x-y
returns c = let s = c in rw (to_z-of_z c.ranges.x) c.requires.0

returns-2 : tie.Need-returns-else-x-y
returns-2 c = let s = c.before in simp (to_z-of_z c.ranges.x, to_z-of_z c.ranges.y, to_z-of_z (x-half s), to_z-of_z (y-half s), to_z-of_z (sum s)) (sum-size s)

pub middle_spec : {M : Type 1} → statement M
middle_spec = tie.close (tie.spec div-result div-result-2 add-result returns returns-2)
