use mathlib.Core.Path.{refl, subst, sym, ◌∙◌}
use mathlib.Core.Bool.{false≢true}
use borrow.Author.Tests.{not-false}
use Prim.Native.Nat.{◌+◌, ◌-◌, ◌*◌, ◌/◌, ◌<◌}
use native.Mathlib.Omega.{arith}
use mir.Syntax.{w64}
use mir.Val.{SFits}
use mir.Facts.{to_z-of_z}
use Rattle.integers.specs.lemmas.Size.{back}
use Rattle.line_rows.specs.declared.Band.{Band}
use Rattle.line_steps.specs.Line.{bound, span}
use Rattle.line_steps.specs.Strips.{Ranged}
use Rattle.line_steps.specs.Ends.{lo-divided, lo-below}
use Rattle.line_steps.specs.Sized.{whole, coordinate-size}
use Rattle.line_steps.proofs.Sizes.{divided_fits}
use Rattle.line_steps.proofs.reduce.alpha0.Statement.{statement}
use Rattle.line_steps.proofs.reduce.alpha0.Tie as tie

fits : (s : Band) → Ranged s → SFits w64 s.m × SFits w64 s.lo.p
fits s r = divided_fits (2 * bound) s.m s.lo.p (lo-divided s r) (omega arith)

returns : tie.Need-returns-then-not-thin
returns c = (record { p = omega arith; q = omega arith }, λ _. refl)

floor-requires : tie.Need-floor-f-requires
floor-requires c κs =
    let s = c in
    let f = fits s.args.s s.requires.0 in
    rw (to_z-of_z f.0, to_z-of_z f.1) (lo-divided s.args.s s.requires.0)

floor-requires-2 : tie.Need-floor-g-requires
floor-requires-2 c κs =
    let s = c in
    let f = fits s.args.t s.requires.1 in
    rw (to_z-of_z f.0, to_z-of_z f.1) (lo-divided s.args.t s.requires.1)

-- what the two calls answer
module _ (c : tie.After-floor-g) where
  abbrev s : tie.Start
  s = c.before.before.before.before.before.before.before

  first : c.floor-f.result < span
  first =
      let f = fits s.args.s s.requires.0 in
      subst (λ k. k < span) (sym (rw (to_z-of_z f.0, to_z-of_z f.1) at c.floor-f.ensures)) (lo-below s.args.s s.requires.0)

  second : c.floor-g.result < span
  second =
      let f = fits s.args.t s.requires.1 in
      subst (λ k. k < span) (sym (rw (to_z-of_z f.0, to_z-of_z f.1) at c.floor-g.ensures)) (lo-below s.args.t s.requires.1)

add-coordinate : tie.Need-overflow_add-f
add-coordinate c = let f = first c in let g = second c in omega arith

coordinate-requires : tie.Need-coordinate-requires
coordinate-requires c κs = let f = first c in let g = second c in (omega arith, omega arith)

add-coordinate-2 : tie.Need-overflow_add-f-2
add-coordinate-2 c = let f = first c.before in let g = second c.before in omega arith

sub-coordinate : tie.Need-overflow_sub-f
sub-coordinate c = let f = first c.before in let g = second c.before in omega arith

mul-coordinate : tie.Need-overflow_mul-f
mul-coordinate c = let f = first c.before in let g = second c.before in omega arith

coordinate-requires-2 : tie.Need-coordinate-requires-2
coordinate-requires-2 c κs = let f = first c.before in let g = second c.before in (omega arith, omega arith)

returns-2 : tie.Need-returns
returns-2 c =
    let f = first c.before.before in
    let g = second c.before.before in
    let d = c in
    let e = d in
    let F = e.floor-f.result in
    let G = e.floor-g.result in
    let l = e.if-not-thin.false in
    rw (back w64 d.coordinate.type_inv, back w64 c.coordinate-2.type_inv) (
      record {
        p = rw d.coordinate.ensures.0 (coordinate-size 10000 ((F + G) / 2) whole (omega arith));
        q = rw c.coordinate-2.ensures.0 (coordinate-size 7071 ((F + 20000 - G) * 70 / 198) whole (omega arith));
      },
      λ h. absurd (false≢true (sym h ∙ l)),
    )

pub alpha0_spec : {M : Type 1} → statement M
alpha0_spec =
    tie.close
    (tie.spec
    returns
    floor-requires
    floor-requires-2
    add-coordinate
    coordinate-requires
    add-coordinate-2
    sub-coordinate
    mul-coordinate
    coordinate-requires-2
    returns-2)
