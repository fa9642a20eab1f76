use mathlib.Core.Path.{refl}
use Prim.Native.Nat.{◌≤◌}
use native.Mathlib.Omega.{arith}
use lib.IntN.{ℤ, pos, nat_abs, ◌-ℤ◌, ◌*ℤ◌}
use mir.Syntax.{w64}
use mir.Val.{SFits}
use mir.Facts.{to_z-of_z}
use Rattle.integers.specs.lemmas.Size.{size--, size-*≤, size→fits}
use Rattle.line_steps.specs.Ends.{lo-divided, hi-divided}
use Rattle.line_steps.proofs.steps.is_thin.Statement.{statement}
use Rattle.line_steps.proofs.steps.is_thin.Tie as tie

module _ (s : tie.Start) where
  abbrev w : ℤ
  w = s.args.s.hi.p -ℤ s.args.s.lo.p

  size : nat_abs w ≤ 30000
  size = omega (arith, size-- s.args.s.hi.p s.args.s.lo.p, (lo-divided s.args.s s.requires).size, (hi-divided s.args.s s.requires).size)

  hi : SFits w64 s.args.s.hi.p
  hi = size→fits (omega (arith, (hi-divided s.args.s s.requires).size))

  lo : SFits w64 s.args.s.lo.p
  lo = size→fits (omega (arith, (lo-divided s.args.s s.requires).size))

  m : SFits w64 s.args.s.m
  m = size→fits (omega (arith, (lo-divided s.args.s s.requires).scale))

  less : SFits w64 w
  less = size→fits (omega (arith, size))

  times : SFits w64 (pos 8 *ℤ w)
  times = size→fits (omega (arith, size-*≤ (pos 8) w 8 30000 (omega arith) size))

sub-result : tie.Need-overflow_sub-result
sub-result c = let s = c.before.before in simp (to_z-of_z (hi s), to_z-of_z (lo s)) (less s)

mul-result : tie.Need-overflow_mul-result
mul-result c = let s = c.before.before in simp (to_z-of_z (hi s), to_z-of_z (lo s), to_z-of_z (less s)) (times s)

returns : tie.Need-returns
returns c = let s = c.before.before.before.before in simp (to_z-of_z (hi s), to_z-of_z (lo s), to_z-of_z (less s), to_z-of_z (times s), to_z-of_z (m s)) refl

pub is_thin_spec : {M : Type 1} → statement M
is_thin_spec = tie.close (tie.spec sub-result mul-result returns)
