use mathlib.Core.Path.{◌∙◌}
use Prim.Native.Nat.{◌≤◌}
use native.Mathlib.Omega.{arith}
use lib.IntN.{pos, nat_abs, ◌-ℤ◌}
use mir.Syntax.{w64}
use mir.Val.{SFits}
use mir.Facts.{to_z-of_z}
use Rattle.integers.specs.lemmas.Size.{size--, size→fits}
use Rattle.ring.specs.RootTwo.Sized.{room}
use Rattle.line_rows.specs.Row.{band_ext}
use Rattle.line_steps.specs.Sized.{whole, shift_is}
use Rattle.line_steps.proofs.steps.shift.Statement.{statement}
use Rattle.line_steps.proofs.steps.shift.Tie as tie

m-fits : (s : tie.Start) → SFits w64 s.args.s.m
m-fits s = size→fits (omega (arith, s.requires.0.scale))

less-size : (s : tie.Start) → nat_abs (pos 0 -ℤ s.args.s.m) ≤ 200
less-size s = omega (arith, size-- (pos 0) s.args.s.m, s.requires.0.scale)

less-fits : (s : tie.Start) → SFits w64 (pos 0 -ℤ s.args.s.m)
less-fits s = size→fits (omega (arith, less-size s))

sub-combined : tie.Need-overflow_sub-s
sub-combined c = let s = c.before.before.before in rw (to_z-of_z (m-fits s)) (less-fits s)

combined-requires : tie.Need-combined-requires
combined-requires c κs =
    let s = c.before.before.before in
    rw (to_z-of_z (m-fits s), to_z-of_z (less-fits s)) (room (pos 1) _ _ _ 1 whole 200 whole (omega arith) s.requires.0.lo (less-size s) s.requires.1 (omega arith))

sub-combined-2 : tie.Need-overflow_sub-s-2
sub-combined-2 c = let s = c.before.before.before.before.before.before.before in rw (to_z-of_z (m-fits s)) (less-fits s)

combined-requires-2 : tie.Need-combined-requires-2
combined-requires-2 c κs =
    let s = c.before.before.before.before.before.before.before in
    rw (to_z-of_z (m-fits s), to_z-of_z (less-fits s)) (room (pos 1) _ _ _ 1 whole 200 whole (omega arith) s.requires.0.hi (less-size s) s.requires.1 (omega arith))

returns : tie.Need-returns
returns c =
    let d = c in
    let s = d.before.before.before in
    band_ext (to_z-of_z (m-fits s.before.before.before.before.before.before))
    (simp (to_z-of_z (m-fits s.before.before.before.before.before.before), to_z-of_z (less-fits s.before.before.before.before.before.before)) at d.combined.ensures ∙ shift_is s.args.s.m s.args.s.lo s.args.w)
    (simp (to_z-of_z (m-fits s.before.before.before.before.before.before), to_z-of_z (less-fits s.before.before.before.before.before.before)) at c.combined-2.ensures ∙ shift_is s.args.s.m s.args.s.hi s.args.w)

pub shift_spec : {M : Type 1} → statement M
shift_spec =
    tie.close (tie.spec sub-combined combined-requires sub-combined-2 combined-requires-2 returns)
