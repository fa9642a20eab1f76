use Rattle.std.specs.Prelude.{Ok}
use mathlib.Core.Path.{◌≡◌, refl, sym, ◌∙◌}
use borrow.Author.Rules.{rules}
use Rattle.operator.specs.Operator.{identity, check_of, in_range, even_parity, special, det_whole, det_root}
use Rattle.operator.specs.lemmas.Undoes.{inverse_is}
use Rattle.question_reduction.proofs.propose.Statement.{statement}
use Rattle.question_reduction.proofs.propose.Tie as tie

is-accepted-requires : tie.Need-is_accepted-requires
is-accepted-requires c κs = search rules

reduced-requires : tie.Need-reduced-t-requires
reduced-requires c κs = sym c.is_accepted.ensures ∙ c.if-is_accepted.true

returns : tie.Need-returns-then-is_accepted
returns c = (inverse_is _ _ c.reduced-t.ensures.undone).0

identity-special : check_of identity ≡ (Ok tt)
unfolding check_of in_range even_parity special det_whole det_root
identity-special = refl

returns-2 : tie.Need-returns-else-is_accepted
returns-2 c = identity-special

pub propose_spec : {M : Type 1} → statement M
propose_spec = tie.close (tie.spec is-accepted-requires reduced-requires returns returns-2)
