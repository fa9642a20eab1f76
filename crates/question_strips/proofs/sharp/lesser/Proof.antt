use mathlib.Core.Path.{refl}
use mathlib.Core.Logic.{inl, inr}
use native.Mathlib.Omega.{arith}
use lib.IntN.{pos, negsuc}
use borrow.Author.Rules.{rules}
use borrow.Author.Tests.{not-false}
use Rattle.ring.specs.RootTwo.Sized.{Sized, room}
use Rattle.question_strips.specs.Reach.{reach_size}
use Rattle.question_strips.proofs.sharp.lesser.Statement.{statement}
use Rattle.question_strips.proofs.sharp.lesser.Tie as tie

is-small-requires : tie.Need-is_small-requires
is-small-requires c κs = search rules

returns : tie.Need-returns-then-not-is_small
returns c = record { size = c.requires; which = inl refl }

small : (k : tie.Else-not-is_small) → Sized reach_size reach_size k.args.c
small k = k.is_small.ensures (k.if-not-is_small.false)

combined-requires : tie.Need-combined-requires
combined-requires c κs = room (pos 1) (negsuc 0) _ _ 1 reach_size 1 reach_size (omega arith) c.requires (omega arith) (small c) (omega arith)

is-nonneg-requires : tie.Need-is_nonneg-requires
is-nonneg-requires c κs = search rules

returns-2 : tie.Need-returns-then-is_nonneg
returns-2 c = record { size = small c.before.before.before; which = inr refl }

returns-3 : tie.Need-returns-else-is_nonneg
returns-3 c = record { size = c.requires; which = inl refl }

pub lesser_spec : {M : Type 1} → statement M
lesser_spec = tie.close (tie.spec is-small-requires returns combined-requires is-nonneg-requires returns-2 returns-3)
