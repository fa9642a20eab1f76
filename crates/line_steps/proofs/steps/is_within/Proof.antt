use mathlib.Core.Path.{sym, ◌∙◌, ap, subst}
use Prim.Native.Nat.{◌*◌, ◌^◌}
use native.Mathlib.Omega.{arith}
use borrow.Author.Rules.{rules}
use lib.IntN.{pos, negsuc}
use mir.Syntax.{w64}
use mir.Val.{SFits}
use mir.Facts.{to_z-of_z}
use Rattle.integers.specs.lemmas.Size.{size→fits}
use Rattle.ring.specs.RootTwo.{◌⊞◌, ◌⊠◌, num}
use Rattle.ring.specs.RootTwo.Order.{nonneg}
use Rattle.ring.specs.RootTwo.Sized.{room, product-size, num_size, sum-size}
use Rattle.line_rows.specs.Row.{at}
use Rattle.line_steps.specs.Sized.{Sized, scaled, width_is}
use Rattle.line_steps.proofs.steps.is_within.Statement.{statement}
use Rattle.line_steps.proofs.steps.is_within.Tie as tie

m-fits : (s : tie.Start) → SFits w64 s.args.s.m
m-fits s = size→fits (omega (arith, s.requires.0.scale))

combined-requires : tie.Need-combined-d-requires
combined-requires c κs = room (negsuc 0) (pos 1) _ _ 1 scaled 1 scaled (omega arith) c.requires.0.hi (omega arith) c.requires.0.lo (omega arith)

-- lo − hi
less-size : (c : tie.After-combined-d) → Sized (2 ^ 42) c.combined-d.result
less-size c =
    let s = c in
    subst (Sized (2 ^ 42)) (sym c.combined-d.ensures)
    (sum-size (3 * scaled) (3 * scaled) (2 ^ 42) _ _ (product-size (num (negsuc 0)) s.args.s.hi 1 scaled (num_size 1 (negsuc 0) (omega arith)) s.requires.0.hi (3 * scaled) (omega arith))
    (product-size (num (pos 1)) s.args.s.lo 1 scaled (num_size 1 (pos 1) (omega arith)) s.requires.0.lo (3 * scaled) (omega arith)) (omega arith))

combined-requires-2 : tie.Need-combined-e-requires
combined-requires-2 c κs =
    let s = c.before.before.before.before in
    rw (to_z-of_z s.ranges.k, to_z-of_z (m-fits s))
    (room s.args.k (pos 1) _ _ 2 200 1 (2 ^ 42) s.requires.1 (record { p = s.requires.0.scale; q = omega arith }) (omega arith) (less-size c.before) (omega arith))

is-nonneg-requires : tie.Need-is_nonneg-requires
is-nonneg-requires c κs = search rules

returns : tie.Need-returns
returns c =
    let d = c in
    let e = d in
    let s = e.before in
    c.is_nonneg.ensures
    ∙ ap nonneg
    (simp (to_z-of_z s.ranges.k, to_z-of_z (m-fits s.before.before.before.before.before)) at d.combined-e.ensures ∙ ap (λ t. num s.args.k ⊠ at s.args.s.m (pos 0) ⊞ num (pos 1) ⊠ t) e.combined-d.ensures
    ∙ width_is s.args.k s.args.s.m s.args.s.hi s.args.s.lo)

pub is_within_spec : {M : Type 1} → statement M
is_within_spec = tie.close (tie.spec combined-requires combined-requires-2 is-nonneg-requires returns)
