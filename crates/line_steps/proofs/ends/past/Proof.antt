use mathlib.Core.Path.{◌≡◌}
use Prim.Native.Nat.{◌≤◌}
use native.Mathlib.Omega.{arith}
use lib.Dec.{T}
use lib.IntN.{pos, nat_abs, ◌+ℤ◌}
use lib.Signed.{non_neg}
use mir.Syntax.{w64}
use mir.Val.{SFits}
use mir.Facts.{to_z-of_z}
use Rattle.integers.specs.lemmas.Size.{size→fits}
use Rattle.integers.specs.lemmas.Tests.{lt_z_true, lt_z_false}
use Rattle.line_steps.specs.Line.{bound}
use Rattle.line_steps.specs.Past.{past_of, past-none, past_all, past-some}
use Rattle.line_steps.proofs.ends.past.Statement.{statement}
use Rattle.line_steps.proofs.ends.past.Tie as tie

returns : tie.Need-returns-then-z-lt-LOWEST
returns c = let s = c in past-none s.args.z (lt_z_true _ _ (rw (to_z-of_z s.ranges.z) at c.if-z-lt-LOWEST.true))

returns-2 : tie.Need-returns-then-z-gt-HIGHEST
returns-2 c = let s = c in past_all s.args.z (lt_z_true _ _ (rw (to_z-of_z s.ranges.z) at c.if-z-gt-HIGHEST.true))

-- between the two ends
module _ (c : tie.Else-z-gt-HIGHEST) where
  abbrev s : tie.Start
  s = c.before.before

  some : T (non_neg (s.args.z +ℤ pos bound)) × (nat_abs (s.args.z +ℤ pos bound) ≤ 20000) × (nat_abs (s.args.z +ℤ pos bound) ≡ past_of s.args.z)
  some = past-some s.args.z (lt_z_false _ _ (rw (to_z-of_z s.ranges.z) at c.if-z-lt-LOWEST.false)) (lt_z_false _ _ (rw (to_z-of_z s.ranges.z) at c.if-z-gt-HIGHEST.false))

  fit : SFits w64 (s.args.z +ℤ pos bound)
  fit = size→fits (omega (arith, some.1))

add-result : tie.Need-overflow_add-result
add-result c = rw (to_z-of_z (s c).ranges.z) (fit c)

cast-result : tie.Need-overflow_cast-result
cast-result c = rw (to_z-of_z (s c).ranges.z, to_z-of_z (fit c)) ((some c).0, omega (arith, (some c).1))

returns-3 : tie.Need-returns
returns-3 c = rw (to_z-of_z (s c).ranges.z, to_z-of_z (fit c)) (some c).2

pub past_spec : {M : Type 1} → statement M
past_spec = tie.close (tie.spec returns returns-2 add-result cast-result returns-3)
