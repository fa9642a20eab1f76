use mathlib.Core.Path.{◌≡◌, sym, ◌∙◌, subst}
use native.Mathlib.Omega.{arith}
use lib.IntN.{ℤ}
use mir.Syntax.{w32, w64}
use mir.Val.{SFits, to_z, of_z}
use mir.Facts.{to_z-of_z}
use borrow.Author.Rules.{rules}
use Rattle.integers.specs.lemmas.Size.{back}
use Rattle.ring.specs.RootTwo.Order.{nonneg}
use Rattle.ring.specs.RootTwo.Sized.{room}
use Rattle.region.specs.declared.Rectangle.{Rectangle}
use Rattle.region.specs.declared.Region.TheVariants as R
use Rattle.region.specs.Accepted.{rectangle-limits}
use Rattle.question_strips.specs.Reach.{Reaches, far_end, far-size, rectangle-reaches}
use Rattle.question_strips.proofs.reach.over_rectangle.Statement.{statement}
use Rattle.question_strips.proofs.reach.over_rectangle.Tie as tie

far-end-requires : tie.Need-far_end-requires
far-end-requires c κs = search rules

far-end-requires-2 : tie.Need-far_end-requires-2
far-end-requires-2 c κs = search rules

module _ (c : tie.After-far_end-2) where
  abbrev s : tie.Start
  s = c.before.before.before.before.before.before

  abbrev r : Rectangle
  r = s.args.r

  abbrev x : ℤ
  x = far_end (nonneg s.args.u) r.xl r.xh

  abbrev y : ℤ
  y = far_end (nonneg s.args.v) r.yl r.yh

  x-is : to_z w64 (of_z w64 c.far_end.result) ≡ x
  x-is =
      let f = c.far_end in
      let l : SFits w32 r.xl = search rules in
      let h : SFits w32 r.xh = search rules in
      back w64 f.type_inv ∙ (simp (to_z-of_z l, to_z-of_z h) at f.ensures)

  y-is : to_z w64 (of_z w64 c.far_end-2.result) ≡ y
  y-is =
      let f = c.far_end-2 in
      let l : SFits w32 r.yl = search rules in
      let h : SFits w32 r.yh = search rules in
      back w64 f.type_inv ∙ (simp (to_z-of_z l, to_z-of_z h) at f.ensures)

combined-requires : tie.Need-combined-requires
combined-requires c κs =
    let d = (s c).requires.1 in
    let l = rectangle-limits (r c) (s c).requires.0 in
    rw (x-is c, y-is c)
    (room (x c) (y c) (s c).args.u (s c).args.v 10000 200 10000 200 (far-size (nonneg (s c).args.u) (r c).xl (r c).xh 10000 l.xl-size l.xh-size) d.first (far-size (nonneg (s c).args.v) (r c).yl (r c).yh 10000 l.yl-size l.yh-size) d.second (omega arith))

returns : tie.Need-returns
returns c =
    let d = c.before in
    let e = rw (x-is d, y-is d) at c.combined.ensures in
    subst (Reaches (R.Rectangle (r d)) (s d).args.u (s d).args.v) (sym e) (rectangle-reaches (r d) (s d).args.u (s d).args.v (s d).requires.0 (s d).requires.1)

pub over_rectangle_spec : {M : Type 1} → statement M
over_rectangle_spec =
    tie.close (tie.spec far-end-requires far-end-requires-2 combined-requires returns)
