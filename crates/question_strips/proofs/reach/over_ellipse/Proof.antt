use mathlib.Core.Path.{◌≡◌, refl, sym, ◌∙◌, subst}
use Prim.Native.Nat.{◌^◌}
use native.Mathlib.Omega.{arith}
use lib.IntN.{ℤ, pos, ◌+ℤ◌, +ℤ_comm, +ℤ_idl}
use mir.Syntax.{w32, w64}
use mir.Val.{SFits, to_z}
use mir.Facts.{to_z-of_z, to_z_pos, sfits_widen}
use borrow.Author.Rules.{rules}
use Rattle.integers.specs.lemmas.Size.{size-+, size→fits}
use Rattle.ring.specs.declared.RootTwo.{RootTwo}
use Rattle.ring.specs.RootTwo.{◌⊞◌, ◌⊠◌, num, ext, sum-parts, num_parts}
use Rattle.ring.specs.RootTwo.Sized.{Sized, room, combined_size}
use Rattle.region.specs.declared.Ellipse.{Ellipse}
use Rattle.region.specs.declared.Region.TheVariants as R
use Rattle.region.specs.Accepted.{EllipseLimits, ellipse-limits}
use Rattle.question_strips.specs.Reach.{Reaches, ellipse-reaches}
use Rattle.question_strips.proofs.reach.over_ellipse.Statement.{statement}
use Rattle.question_strips.proofs.reach.over_ellipse.Tie as tie

module _ (s : tie.Start) where
  abbrev e : Ellipse
  e = s.args.e

  limits : EllipseLimits e
  limits = ellipse-limits e s.requires.0

  x_fits : SFits w32 e.cx
  x_fits = size→fits (omega (arith, limits.cx-size))

  y-fits : SFits w32 e.cy
  y-fits = size→fits (omega (arith, limits.cy-size))

  x-wide : SFits w64 e.cx
  x-wide = sfits_widen tt x_fits

  y-wide : SFits w64 e.cy
  y-wide = sfits_widen tt y-fits

  abbrev centre : RootTwo
  centre = num e.cx ⊠ s.args.u ⊞ num e.cy ⊠ s.args.v

  centre-size : Sized (2 ^ 22) (2 ^ 22) centre
  centre-size = combined_size e.cx e.cy s.args.u s.args.v 10000 200 10000 200 (2 ^ 22) limits.cx-size s.requires.1.first limits.cy-size s.requires.1.second (omega arith)

cast-combined : tie.Need-overflow_cast-e
cast-combined c = let s = c.before.before in rw (to_z-of_z (x_fits s)) (x-wide s)

cast-combined-2 : tie.Need-overflow_cast-e-2
cast-combined-2 c = let s = c.before.before.before.before in rw (to_z-of_z (y-fits s)) (y-wide s)

combined-requires : tie.Need-combined-c-requires
combined-requires c κs =
    let s = c.before.before.before.before in
    simp (to_z-of_z (x_fits s), to_z-of_z (y-fits s), to_z-of_z (x-wide s), to_z-of_z (y-wide s))
    (room (e s).cx (e s).cy c.args.u c.args.v 10000 200 10000 200 (limits s).cx-size c.requires.1.first (limits s).cy-size c.requires.1.second (omega arith))

half-width-requires : tie.Need-half_width-m-requires
half-width-requires c κs = search rules

cast-t6 : tie.Need-overflow_cast-result
cast-t6 c = search rules

module _ (c : tie.After-half_width-m) where
  abbrev s : tie.Start
  s = c.before.before.before.before.before.before

  abbrev z : RootTwo
  z = c.combined-c.result

  z-is : z ≡ centre s
  z-is = simp (to_z-of_z (x_fits s), to_z-of_z (y-fits s), to_z-of_z (x-wide s), to_z-of_z (y-wide s)) at c.combined-c.ensures

  z-size : Sized (2 ^ 22) (2 ^ 22) z
  z-size = subst (Sized (2 ^ 22) (2 ^ 22)) (sym z-is) (centre-size s)

  p-fits : SFits w64 z.p
  p-fits = size→fits (omega (arith, z-size.p))

  q-fits : SFits w64 z.q
  q-fits = size→fits (omega (arith, z-size.q))

  m-is : to_z w64 c.half_width-m.result ≡ pos c.half_width-m.result
  m-is = to_z_pos w64 (omega (arith, c.half_width-m.ensures.small))

  sum : SFits w64 (z.p +ℤ pos c.half_width-m.result)
  sum = size→fits (omega (arith, z-size.p, c.half_width-m.ensures.small, size-+ z.p (pos c.half_width-m.result)))

add-t7 : tie.Need-overflow_add-result
add-t7 c = let d = c.before.before in simp (to_z-of_z (p-fits d), m-is d) (sum d)

returns : tie.Need-returns
returns c =
    let d = c.before.before.before in
    let m = c.half_width-m.result in
    simp (to_z-of_z (p-fits d), to_z-of_z (q-fits d), m-is d, to_z-of_z (sum d))
    (subst (Reaches (R.Ellipse (e (s d))) (s d).args.u (s d).args.v) (sym (shifted (z d) (pos m)) ∙ refl) (subst (λ t. Reaches (R.Ellipse (e (s d))) (s d).args.u (s d).args.v (t ⊞ num (pos m))) (sym (z-is d)) (ellipse-reaches (e (s d)) (s d).args.u (s d).args.v m (s d).requires.0 (s d).requires.1 c.half_width-m.ensures)))
  where
    shifted : (z : RootTwo) (m : ℤ) → record { p = z.p +ℤ m; q = z.q } ≡ z ⊞ num m
    shifted z m = sym (simp (sum-parts, num_parts) (ext refl (zero z.q)))
      where
        zero : (q : ℤ) → q +ℤ pos 0 ≡ q
        zero q = +ℤ_comm q (pos 0) ∙ +ℤ_idl q

pub over_ellipse_spec : {M : Type 1} → statement M
over_ellipse_spec =
    tie.close
    (tie.spec
    cast-combined
    cast-combined-2
    combined-requires
    half-width-requires
    cast-t6
    add-t7
    returns)
