use mathlib.Core.Path.{◌≡◌, refl}
use Prim.Native.Nat.{◌*◌, ◌^◌, ◌≤◌}
use native.Mathlib.Omega.{arith}
use lib.IntN.{ℤ, pos, nat_abs, ◌+ℤ◌, ◌*ℤ◌}
use mir.Syntax.{w64}
use mir.Val.{SFits, to_z}
use mir.Facts.{to_z-of_z, to_z_pos}
use borrow.Author.Rules.{rules}
use Rattle.integers.specs.lemmas.Size.{size-+, size-*≤, size→fits}
use Rattle.question_strips.proofs.sharp.beyond.Statement.{statement}
use Rattle.question_strips.proofs.sharp.beyond.Tie as tie

-- 2n and the sum
module _ (c : tie.Start) where
  abbrev m : ℤ
  m = pos 2 *ℤ pos c.args.n

  n_is : to_z w64 c.args.n ≡ pos c.args.n
  n_is = to_z_pos w64 (omega (arith, c.requires.1))

  m-size : nat_abs m ≤ 2 * 100
  m-size = size-*≤ (pos 2) (pos c.args.n) 2 100 (omega arith) c.requires.1

  size : nat_abs (c.args.b +ℤ m) ≤ 2 ^ 32
  size = omega (arith, size-+ c.args.b m, m-size, c.requires.0)

  m-fits : SFits w64 m
  m-fits = size→fits (omega (arith, m-size))

  fits : SFits w64 (c.args.b +ℤ m)
  fits = size→fits (omega (arith, size))

cast-result : tie.Need-overflow_cast-result
cast-result c = search rules

mul-result : tie.Need-overflow_mul-result
mul-result c = rw (n_is c) (m-fits c)

add-result : tie.Need-overflow_add-result
add-result c = rw (n_is c, to_z-of_z (m-fits c), to_z-of_z c.ranges.b) (fits c)

returns : tie.Need-returns
returns c = rw (n_is c, to_z-of_z (m-fits c), to_z-of_z c.ranges.b, to_z-of_z (fits c)) (refl, size c)

pub beyond_spec : {M : Type 1} → statement M
beyond_spec = tie.close (tie.spec cast-result mul-result add-result returns)
