use mathlib.Core.Path.{◌∙◌, ap, subst}
use mathlib.Core.List.{[]}
use native.Mathlib.Omega.{arith}
use lib.ListN.{get_or}
use Rattle.gate_theory.specs.Table.{tails, unpack, tail}
use Rattle.gate_clifford.specs.Written.{Adds}
use borrow.Author.Rules.{rules}
use Rattle.gate_clifford.proofs.tails.tail.Statement.{statement}
use Rattle.gate_clifford.proofs.tails.tail.Tie as tie

cast-m : tie.Need-overflow_cast-m
cast-m c = search rules

index-requires : tie.Need-index-requires
index-requires c κs = omega arith

entry-requires : tie.Need-entry-requires
entry-requires c κs = search rules

unpack-requires : tie.Need-unpack-requires
unpack-requires c κs = search rules

returns : tie.Need-returns
unfolding tail
returns c =
    subst (λ n. Adds c.args.w (unpack 10 n []) c.unpack.result) (c.entry.ensures ∙ ap (λ i. get_or tails i 0) c.index.ensures.0) c.unpack.ensures

pub tail_spec : {M : Type 1} → statement M
tail_spec = tie.close (tie.spec cast-m index-requires entry-requires unpack-requires returns)
