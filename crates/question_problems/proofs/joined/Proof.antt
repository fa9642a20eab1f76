use mathlib.Core.Path.{refl}
use Prim.Native.Nat.{◌*◌, ◌≤◌}
use native.Mathlib.Omega.{arith}
use lib.IntN.{pos, nat_abs, ◌*ℤ◌}
use mir.Syntax.{w64}
use mir.Val.{SFits}
use mir.Facts.{to_z-of_z}
use Rattle.integers.specs.lemmas.Size.{size-*≤, size→fits}
use Rattle.ring.specs.RootTwo.Sized.{room}
use Rattle.line_rows.specs.declared.Band.{Band}
use Rattle.line_rows.specs.Row.{band_ext}
use Rattle.question_strips.specs.Strips.{end_size}
use Rattle.question_problems.proofs.joined.Statement.{statement}
use Rattle.question_problems.proofs.joined.Tie as tie

module _ (c : tie.Start) where
  abbrev s : Band
  s = c.args.s

  abbrev t : Band
  t = c.args.t

  s-fits : SFits w64 s.m
  s-fits = size→fits (omega (arith, c.requires.0.scale))

  t-fits : SFits w64 t.m
  t-fits = size→fits (omega (arith, c.requires.1.scale))

  size : nat_abs (s.m *ℤ t.m) ≤ 100 * 100
  size = size-*≤ s.m t.m 100 100 c.requires.0.scale c.requires.1.scale

  once : SFits w64 (s.m *ℤ t.m)
  once = size→fits (omega (arith, size))

  twice : SFits w64 (pos 2 *ℤ (s.m *ℤ t.m))
  twice = size→fits (omega (arith, size-*≤ (pos 2) (s.m *ℤ t.m) 2 (100 * 100) (omega arith) size))

mul-t3 : tie.Need-overflow_mul-result
mul-t3 c = let d = c.before.before.before.before in simp (to_z-of_z (s-fits c.before.before.before.before), to_z-of_z (t-fits c.before.before.before.before)) (once c.before.before.before.before)

mul-t4 : tie.Need-overflow_mul-result-2
mul-t4 c = let d = c.before.before.before.before in simp (to_z-of_z (s-fits c.before.before.before.before), to_z-of_z (t-fits c.before.before.before.before), to_z-of_z (once c.before.before.before.before)) (twice c.before.before.before.before)

combined-requires : tie.Need-combined-requires
combined-requires c κs =
    let d = c.before.before.before.before.before.before.before.before in
    simp (to_z-of_z (s-fits c.before.before.before.before.before.before.before.before), to_z-of_z (t-fits c.before.before.before.before.before.before.before.before)) (room (t c.before.before.before.before.before.before.before.before).m (s c.before.before.before.before.before.before.before.before).m (s c.before.before.before.before.before.before.before.before).lo (t c.before.before.before.before.before.before.before.before).lo 100 end_size 100 end_size c.requires.1.scale c.requires.0.lo c.requires.0.scale c.requires.1.lo (omega arith))

combined-requires-2 : tie.Need-combined-requires-2
combined-requires-2 c κs =
    let d = c.before.before.before.before.before.before.before.before.before.before.before.before.before in
    simp (to_z-of_z (s-fits c.before.before.before.before.before.before.before.before.before.before.before.before.before), to_z-of_z (t-fits c.before.before.before.before.before.before.before.before.before.before.before.before.before)) (room (t c.before.before.before.before.before.before.before.before.before.before.before.before.before).m (s c.before.before.before.before.before.before.before.before.before.before.before.before.before).m (s c.before.before.before.before.before.before.before.before.before.before.before.before.before).hi (t c.before.before.before.before.before.before.before.before.before.before.before.before.before).hi 100 end_size 100 end_size c.requires.1.scale c.requires.0.hi c.requires.0.scale c.requires.1.hi (omega arith))

returns : tie.Need-returns
returns c =
    let a = c in
    let d = a.before.before.before.before.before.before.before in
    let l = simp (to_z-of_z (s-fits c.before.before.before.before.before.before.before.before.before.before.before.before.before.before), to_z-of_z (t-fits c.before.before.before.before.before.before.before.before.before.before.before.before.before.before)) at c.combined.ensures in
    let h = simp (to_z-of_z (s-fits c.before.before.before.before.before.before.before.before.before.before.before.before.before.before), to_z-of_z (t-fits c.before.before.before.before.before.before.before.before.before.before.before.before.before.before)) at c.combined-2.ensures in
    simp (to_z-of_z (s-fits c.before.before.before.before.before.before.before.before.before.before.before.before.before.before), to_z-of_z (t-fits c.before.before.before.before.before.before.before.before.before.before.before.before.before.before), to_z-of_z (once c.before.before.before.before.before.before.before.before.before.before.before.before.before.before), to_z-of_z (twice c.before.before.before.before.before.before.before.before.before.before.before.before.before.before)) (band_ext refl l h)

pub joined_spec : {M : Type 1} → statement M
joined_spec =
    tie.close (tie.spec mul-t3 mul-t4 combined-requires combined-requires-2 returns)
