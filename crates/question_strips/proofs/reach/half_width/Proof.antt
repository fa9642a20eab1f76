use mathlib.Core.Path.{◌≡◌, sym, ◌∙◌, subst}
use Prim.Native.Nat.{◌^◌, ◌≤◌}
use native.Mathlib.Omega.{arith}
use lib.IntN.{pos, nat_abs}
use lib.Signed.{yes_non_neg, pos-nat_abs}
use mir.Syntax.{w64}
use mir.Val.{to_z, of_z}
use borrow.Author.Rules.{rules}
use Rattle.integers.specs.lemmas.Size.{fits→size, back}
use Rattle.ring.specs.RootTwo.{num}
use Rattle.ring.specs.RootTwo.Order.{◌⊑◌}
use Rattle.region.specs.declared.Ellipse.{Ellipse}
use Rattle.region.specs.Region.{discriminant}
use Rattle.region.specs.Accepted.{EllipseLimits, ellipse-limits}
use Rattle.region.specs.lemmas.HalfWidth.{positive-nn, one_size}
use Rattle.question_strips.specs.Reach.{HalfWidth, half-width_found}
use Rattle.question_strips.proofs.reach.half_width.Statement.{statement}
use Rattle.question_strips.proofs.reach.half_width.Tie as tie

width-requires : tie.Need-width-requires
width-requires c κs = search rules

ceiling-requires : tie.Need-ceiling-f-requires
ceiling-requires c κs = search rules

discriminant-requires : tie.Need-discriminant-d-requires
discriminant-requires c κs = search rules

module _ (c : tie.After-discriminant-d) where
  abbrev s : tie.Start
  s = c.before.before.before

  abbrev e : Ellipse
  e = s.args.e

  limits : EllipseLimits e
  limits = ellipse-limits e s.requires.0

  d-is : to_z w64 (of_z w64 c.discriminant-d.result) ≡ discriminant e
  d-is = back w64 c.discriminant-d.type_inv ∙ c.discriminant-d.ensures

  d-one : 1 ≤ nat_abs (discriminant e)
  d-one = one_size (discriminant e) limits.positive

  d-size : nat_abs (discriminant e) ≤ 2 ^ 63
  d-size = rw c.discriminant-d.ensures at (fits→size {w = w64} {z = c.discriminant-d.result} (record { sfits = c.discriminant-d.type_inv }))

  f-size : c.ceiling-f.result ≤ 2 ^ 29
  f-size = c.ceiling-f.ensures.0

cast-d : tie.Need-overflow_cast-d
cast-d c = rw (d-is c) (yes_non_neg (positive-nn (discriminant (e c)) (limits c).positive), omega (arith, d-size c))

half-width-requires : tie.Need-half_width-requires
half-width-requires c κs = ((limits c).s-high, omega (arith, f-size c), rw (d-is c) (d-one c), rw (d-is c) (d-size c))

returns : tie.Need-returns
returns c =
    let d = c.before in
    let f = c.ceiling-f in
    let w = subst (λ x. x ⊑ num (pos f.result)) c.width.ensures.0 f.ensures.1 in
    let m = rw (d-is d) at c.half_width.ensures in
    subst (HalfWidth (e d) (s d).args.u (s d).args.v) (sym m)
    (half-width_found (e d) (s d).args.u (s d).args.v f.result (nat_abs (discriminant (e d))) (limits d) w (f-size d) (sym (pos-nat_abs _ (yes_non_neg (positive-nn (discriminant (e d)) (limits d).positive)))) (d-one d))

pub half_width_spec : {M : Type 1} → statement M
half_width_spec =
    tie.close
    (tie.spec
    width-requires
    ceiling-requires
    discriminant-requires
    cast-d
    half-width-requires
    returns)
