use Rattle.std.specs.Prelude.{Ok}
use mathlib.Core.Path.{◌≡◌, refl, sym, ◌∙◌}
use borrow.Author.Rules.{rules}
use Rattle.operator.specs.Operator.{identity, check_of, in_range, even_parity, special, det_whole, det_root}
use Rattle.operator.specs.Inverse.{inverse_of, adjugate, times}
use Rattle.question_reduction.proofs.usable.Statement.{statement}
use Rattle.question_reduction.proofs.usable.Tie as tie

inverse-requires : tie.Need-inverse-i-requires
inverse-requires c κs = search rules

enum-known-i : tie.Need-enum_known-i
enum-known-i c = search rules

enum_told : tie.Need-enum_told-1
enum_told c = search rules

returns : tie.Need-returns-in-Ok
returns c = record { undone = sym c.inverse-i.ensures.inverse ∙ c.in-Ok.is }

-- the identity is its own inverse
identity-undone : inverse_of identity ≡ Ok identity
unfolding inverse_of adjugate times check_of in_range even_parity special det_whole det_root
identity-undone = refl

returns-2 : tie.Need-returns-in-Err
returns-2 c = record { undone = identity-undone }

pub usable_spec : {M : Type 1} → statement M
usable_spec =
    tie.close (tie.spec inverse-requires enum-known-i enum_told returns returns-2)
