use mathlib.Core.Path.{◌≡◌, refl, ◌∙◌, ap}
use mathlib.Core.List.{[], ◌∷◌}
use native.Mathlib.Omega.{arith}
use lib.IntN.{pos, negsuc}
use borrow.Author.Rules.{rules}
use Rattle.integers.specs.lemmas.Ring.{poly, by_ring}
use Rattle.ring.specs.declared.RootTwo.{RootTwo}
use Rattle.ring.specs.RootTwo.{◌⊞◌, ◌⊟◌, ◌⊠◌, num, ring√}
use Rattle.ring.specs.RootTwo.Order.{nonneg}
use Rattle.ring.specs.RootTwo.Sized.{room}
use Rattle.question_strips.specs.Strips.{end_size}
use Rattle.question_problems.proofs.is_proper.Statement.{statement}
use Rattle.question_problems.proofs.is_proper.Tie as tie

combined-requires : tie.Need-combined-d-requires
combined-requires c κs = room (pos 1) (negsuc 0) c.args.s.hi c.args.s.lo 1 end_size 1 end_size (omega arith) c.requires.hi (omega arith) c.requires.lo (omega arith)

is-nonneg-requires : tie.Need-is_nonneg-requires
is-nonneg-requires c κs = search rules

returns : tie.Need-returns
returns c = let d = c in let s = c.args.s in c.is_nonneg.ensures ∙ ap nonneg (c.combined-d.ensures ∙ difference s.hi s.lo)
  where
    difference : (h l : RootTwo) → num (pos 1) ⊠ h ⊞ num (negsuc 0) ⊠ l ≡ h ⊟ l
    difference h l = by_ring ring√ (h ∷ l ∷ []) (search poly depth 30) refl

pub is_proper_spec : {M : Type 1} → statement M
is_proper_spec = tie.close (tie.spec combined-requires is-nonneg-requires returns)
