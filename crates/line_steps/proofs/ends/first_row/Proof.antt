use mathlib.Core.Path.{◌≡◌, ap₂}
use Prim.Native.Nat.{ℕ, ◌+◌, ◌*◌, ◌/◌}
use native.Mathlib.Omega.{arith}
use mir.Syntax.{w64}
use mir.Val.{SFits}
use mir.Facts.{to_z-of_z}
use Rattle.line_rows.specs.declared.Band.{Band}
use Rattle.line_steps.specs.Line.{bound}
use Rattle.line_steps.specs.Strips.{Ranged}
use Rattle.line_steps.specs.Ends.{floor_of, lo-divided, lo-below}
use Rattle.line_steps.proofs.Sizes.{divided_fits}
use Rattle.line_steps.proofs.ends.first_row.Statement.{statement}
use Rattle.line_steps.proofs.ends.first_row.Tie as tie

fits : (s : Band) → Ranged s → SFits w64 s.m × SFits w64 s.lo.p
fits s r = divided_fits (2 * bound) s.m s.lo.p (lo-divided s r) (omega arith)

floor-requires : tie.Need-floor-requires
floor-requires c κs =
    let s = c in
    let f = fits s.args.s s.requires.0 in
    rw (to_z-of_z f.0, to_z-of_z f.1) (lo-divided s.args.s s.requires.0)

floor-requires-2 : tie.Need-floor-requires-2
floor-requires-2 c κs =
    let s = c in
    let f = fits s.args.t s.requires.1 in
    rw (to_z-of_z f.0, to_z-of_z f.1) (lo-divided s.args.t s.requires.1)

-- what the two calls answer
module _ (c : tie.After-floor-2) where
  abbrev s : tie.Start
  s = c.before.before.before.before.before.before

  first : c.floor.result ≡ floor_of s.args.s.m s.args.s.lo.p
  first = let f = fits s.args.s s.requires.0 in rw (to_z-of_z f.0, to_z-of_z f.1) at c.floor.ensures

  second : c.floor-2.result ≡ floor_of s.args.t.m s.args.t.lo.p
  second = let f = fits s.args.t s.requires.1 in rw (to_z-of_z f.0, to_z-of_z f.1) at c.floor-2.ensures

add-result : tie.Need-overflow_add-result
add-result c = let e = first c in let f = second c in omega (arith, lo-below (s c).args.s (s c).requires.0, lo-below (s c).args.t (s c).requires.1)

returns : tie.Need-returns
returns c = ap₂ (λ (x y : ℕ). (x + y) / 2) (first c) (second c)

pub first_row_spec : {M : Type 1} → statement M
first_row_spec = tie.close (tie.spec floor-requires floor-requires-2 add-result returns)
