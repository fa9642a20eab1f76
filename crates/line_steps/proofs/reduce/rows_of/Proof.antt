use Prim.Native.Nat.{◌≤◌}
use native.Mathlib.Omega.{arith}
use lib.IntN.{pos, nat_abs, ◌*ℤ◌}
use mir.Syntax.{w64}
use mir.Val.{SFits}
use mir.Facts.{to_z-of_z}
use Rattle.integers.specs.lemmas.Size.{size-*≤, size→fits}
use Rattle.ring.specs.RootTwo.Sized.{room}
use Rattle.line_rows.specs.Row.{band_ext}
use Rattle.line_steps.specs.Sized.{scaled}
use Rattle.line_steps.proofs.reduce.rows_of.Statement.{statement}
use Rattle.line_steps.proofs.reduce.rows_of.Tie as tie

module _ (s : tie.Start) where
  first : SFits w64 s.args.f.m
  first = size→fits (omega (arith, s.requires.0.scale))

  second : SFits w64 s.args.g.m
  second = size→fits (omega (arith, s.requires.1.scale))

  double-size : nat_abs (pos 2 *ℤ s.args.f.m) ≤ 400
  double-size = size-*≤ (pos 2) s.args.f.m 2 200 (omega arith) s.requires.0.scale

  double : SFits w64 (pos 2 *ℤ s.args.f.m)
  double = size→fits (omega (arith, double-size))

  both : SFits w64 (pos 2 *ℤ s.args.f.m *ℤ s.args.g.m)
  both = size→fits (omega (arith, size-*≤ (pos 2 *ℤ s.args.f.m) s.args.g.m 400 200 double-size s.requires.1.scale))

mul-t3 : tie.Need-overflow_mul-result
mul-t3 c = let s = c.before.before in simp (to_z-of_z (first s)) (double s)

mul-t4 : tie.Need-overflow_mul-result-2
mul-t4 c = let s = c.before.before.before.before in simp (to_z-of_z (first s), to_z-of_z (second s), to_z-of_z (double s)) (both s)

combined-requires : tie.Need-combined-requires
combined-requires c κs =
    let s = c.before.before.before.before.before.before.before.before in
    simp (to_z-of_z (first s), to_z-of_z (second s)) (room _ _ _ _ 200 scaled 200 scaled s.requires.1.scale s.requires.0.lo s.requires.0.scale s.requires.1.lo (omega arith))

combined-requires-2 : tie.Need-combined-requires-2
combined-requires-2 c κs =
    let s = c.before.before.before.before.before.before.before.before.before.before.before.before.before in
    simp (to_z-of_z (first s), to_z-of_z (second s)) (room _ _ _ _ 200 scaled 200 scaled s.requires.1.scale s.requires.0.hi s.requires.0.scale s.requires.1.hi (omega arith))

returns : tie.Need-returns
returns c =
    let d = c in
    let s = d.before.before.before.before.before.before.before in
    band_ext (simp (to_z-of_z (first s.before.before.before.before.before.before.before), to_z-of_z (second s.before.before.before.before.before.before.before), to_z-of_z (double s.before.before.before.before.before.before.before), to_z-of_z (both s.before.before.before.before.before.before.before)))
    (simp (to_z-of_z (first s.before.before.before.before.before.before.before), to_z-of_z (second s.before.before.before.before.before.before.before)) at d.combined.ensures)
    (simp (to_z-of_z (first s.before.before.before.before.before.before.before), to_z-of_z (second s.before.before.before.before.before.before.before)) at c.combined-2.ensures)

pub rows_of_spec : {M : Type 1} → statement M
rows_of_spec = tie.close (tie.spec mul-t3 mul-t4 combined-requires combined-requires-2 returns)
