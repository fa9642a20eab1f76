use mathlib.Core.Path.{◌≡◌, sym, ◌∙◌, ap, subst}
use mathlib.Core.Logic.{inl, inr, ⊎_elim}
use native.Mathlib.Omega.{arith}
use borrow.Author.Rules.{rules}
use lib.IntN.{ℤ}
use mir.Syntax.{w64}
use mir.Val.{SFits, to_z, of_z}
use mir.Facts.{to_z-of_z}
use Rattle.integers.specs.Difference.{◌≼◌, ◌≺◌}
use Rattle.integers.specs.lemmas.Order.{≼-antisym, total}
use Rattle.integers.specs.lemmas.Size.{size→fits, back}
use Rattle.integers.specs.lemmas.Tests.{lt_z_true, lt_z_false}
use Rattle.line_steps.specs.Line.{coordinate}
use Rattle.line_steps.proofs.pair_rows.is_before.Statement.{statement}
use Rattle.line_steps.proofs.pair_rows.is_before.Tie as tie

coordinate-requires : tie.Need-coordinate-a-requires
coordinate-requires c κs = let n = c.requires.0 in let a = n.a_in in (omega arith, omega arith)

coordinate-requires-2 : tie.Need-coordinate-b-requires
coordinate-requires-2 c κs = let n = c.requires.0 in let b = n.b-in in (omega arith, omega arith)

module _ (c : tie.After-coordinate-b) where
  abbrev start : tie.Start
  start = c.before.before

  p-fits : SFits w64 start.args.z.p
  p-fits = size→fits (omega (arith, start.requires.1.p))

  q-fits : SFits w64 start.args.z.q
  q-fits = size→fits (omega (arith, start.requires.1.q))

  first : to_z w64 (of_z w64 c.coordinate-a.result) ≡ coordinate start.args.p.a
  first = back w64 {z = c.coordinate-a.result} c.coordinate-a.type_inv ∙ c.coordinate-a.ensures.0

  second : to_z w64 (of_z w64 c.coordinate-b.result) ≡ coordinate start.args.p.b
  second = back w64 {z = c.coordinate-b.result} c.coordinate-b.type_inv ∙ c.coordinate-b.ensures.0

below : (a b : ℤ) → a ≼ b → (b ≡ a → ⊥) → a ≺ b
below a b h f = ⊎_elim (λ k. absurd (f (≼-antisym b a k h))) (λ k. k) (total b a)

returns : tie.Need-returns-then-z-a
returns c =
    let i = c in
    let k = i.before.before.before in
    let e : (start k.before.before).args.z.p ≡ coordinate (start k.before.before).args.p.a = sym (to_z-of_z (p-fits k.before.before)) ∙ ap (to_z w64) i.if-z-a.true ∙ first k.before.before in (
      λ h. inr (e, lt_z_true _ _ (rw (to_z-of_z (q-fits k.before.before), second k.before.before) at h)),
      λ h. inr (sym e, lt_z_false _ _ (rw (to_z-of_z (q-fits k.before.before), second k.before.before) at h)),
    )

returns-2 : tie.Need-returns
returns-2 c =
    let i = c in
    let k = i.before.before.before in (
      λ h. inl (lt_z_true _ _ (rw (to_z-of_z (p-fits k.before.before), first k.before.before) at h)),
      λ h. inl (below _ _ (lt_z_false _ _ (rw (to_z-of_z (p-fits k.before.before), first k.before.before) at h)) (λ e. i.if-z-a.false (ap (of_z w64) (e ∙ sym k.coordinate-a.ensures.0)))),
    )

pub is_before_spec : {M : Type 1} → statement M
is_before_spec = tie.close (tie.spec coordinate-requires coordinate-requires-2 returns returns-2)
