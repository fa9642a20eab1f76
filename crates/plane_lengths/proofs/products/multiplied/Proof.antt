use mathlib.Core.Path.{◌≡◌, refl}
use Prim.Native.Nat.{◌*◌, ◌^◌, ◌≤◌}
use native.Mathlib.Omega.{arith}
use lib.IntN.{ℤ, pos, nat_abs, ◌*ℤ◌}
use mir.Syntax.{w64}
use mir.Val.{SFits, to_z}
use mir.Facts.{to_z-of_z, to_z_pos}
use borrow.Author.Rules.{rules}
use Rattle.integers.specs.lemmas.Size.{size-*≤, size→fits}
use Rattle.plane_lengths.proofs.products.multiplied.Statement.{statement}
use Rattle.plane_lengths.proofs.products.multiplied.Tie as tie

-- the square and the product
module _ (c : tie.Start) where
  abbrev m : ℤ
  m = pos c.args.n *ℤ pos c.args.n

  n_is : to_z w64 c.args.n ≡ pos c.args.n
  n_is = to_z_pos w64 (omega (arith, c.requires.0))

  m-size : nat_abs m ≤ 100 * 100
  m-size = size-*≤ (pos c.args.n) (pos c.args.n) 100 100 c.requires.0 c.requires.0

  size : nat_abs (m *ℤ c.args.t) ≤ 2 ^ 45
  size = omega (arith, size-*≤ m c.args.t (100 * 100) (2 ^ 31) m-size c.requires.1)

  m-fits : SFits w64 m
  m-fits = size→fits (omega (arith, m-size))

  fits : SFits w64 (m *ℤ c.args.t)
  fits = size→fits (omega (arith, size))

cast-result : tie.Need-overflow_cast-result
cast-result c = search rules

cast-result-2 : tie.Need-overflow_cast-result-2
cast-result-2 c = search rules

mul-result : tie.Need-overflow_mul-result
mul-result c = rw (n_is c) (m-fits c)

mul-result-2 : tie.Need-overflow_mul-result-2
mul-result-2 c = rw (n_is c, to_z-of_z (m-fits c), to_z-of_z c.ranges.t) (fits c)

returns : tie.Need-returns
returns c = rw (n_is c, to_z-of_z (m-fits c), to_z-of_z c.ranges.t, to_z-of_z (fits c)) (refl, size c)

pub multiplied_spec : {M : Type 1} → statement M
multiplied_spec = tie.close (tie.spec cast-result cast-result-2 mul-result mul-result-2 returns)
