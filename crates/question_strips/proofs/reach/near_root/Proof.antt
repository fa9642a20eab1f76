use mathlib.Core.Path.{◌≡◌}
use Prim.Native.Nat.{ℕ, ◌*◌, ◌/◌, ◌^◌, ◌≤◌}
use native.Mathlib.Omega.{arith}
use lib.IntN.{pos, nat_abs, ◌+ℤ◌, ◌-ℤ◌}
use mir.Syntax.{w64}
use mir.Val.{SFits, to_z}
use mir.Facts.{to_z-of_z, to_z_pos}
use borrow.Author.Rules.{rules}
use Rattle.integers.specs.lemmas.Size.{size-+, size--, size→fits}
use Rattle.question_strips.proofs.reach.near_root.Statement.{statement}
use Rattle.question_strips.proofs.reach.near_root.Tie as tie

abs-requires : tie.Need-abs-requires
abs-requires c κs = search rules

module _ (c : tie.After-abs) where
  abbrev n : ℕ
  n = c.abs.result

  n_is : n ≡ nat_abs c.args.q
  n_is = rw (to_z-of_z c.ranges.q) at c.abs.ensures

  n-small : n ≤ 2 ^ 38
  n-small = omega (arith, n_is, c.requires)

  abbrev t : ℕ
  t = n * 22619537 / 15994428

  t-twice : t ≤ 2 * n
  t-twice = omega arith

  t-small : t ≤ 2 ^ 39
  t-small = omega (arith, n-small, t-twice)

  t-is : to_z w64 t ≡ pos t
  t-is = to_z_pos w64 (omega (arith, t-small))

  up : SFits w64 (pos t +ℤ pos 1)
  up = size→fits (omega (arith, t-small, size-+ (pos t) (pos 1)))

  down : SFits w64 (pos 0 -ℤ pos t)
  down = size→fits (omega (arith, t-small, size-- (pos 0) (pos t)))

mul-c : tie.Need-overflow_mul-c
mul-c c = omega (arith, n-small c)

cast-c : tie.Need-overflow_cast-c
cast-c c = size→fits (omega (arith, t-small c))

add-result : tie.Need-overflow_add-result
add-result c = rw (t-is c.before) (up c.before)

sub-result : tie.Need-overflow_sub-result
sub-result c = rw (t-is c.before) (down c.before)

returns : tie.Need-returns-then-q-ge0
returns c = let d = c.before in rw (t-is d, to_z-of_z (up d)) (omega (arith, n_is d, t-twice d, size-+ (pos (t d)) (pos 1)))

returns-2 : tie.Need-returns-else-q-ge0
returns-2 c = let d = c.before in rw (t-is d, to_z-of_z (down d)) (omega (arith, n_is d, t-twice d, size-- (pos 0) (pos (t d))))

pub near_root_spec : {M : Type 1} → statement M
near_root_spec =
    tie.close (tie.spec abs-requires mul-c cast-c add-result sub-result returns returns-2)
