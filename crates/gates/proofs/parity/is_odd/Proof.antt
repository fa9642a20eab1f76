use mathlib.Core.Path.{◌∙◌, ap}
use mathlib.Core.Bool.{not}
use mir.Syntax.{w64}
use mir.Val.{to_z, of_z}
use mir.Facts.{to_z-of_z, sfits_widen}
use Rattle.integers.specs.Parity.{even}
use borrow.Author.Rules.{rules}
use Rattle.gates.proofs.parity.is_odd.Statement.{statement}
use Rattle.gates.proofs.parity.is_odd.Tie as tie

cast-is-even : tie.Need-overflow_cast-a
cast-is-even c = rw (to_z-of_z c.ranges.a) (sfits_widen tt c.ranges.a)

is-even-requires : tie.Need-is_even-requires
is-even-requires c κs = search rules

returns : tie.Need-returns
returns c = ap not (c.is_even.ensures ∙ ap even (ap (λ z. to_z w64 (of_z w64 z)) (to_z-of_z c.ranges.a) ∙ to_z-of_z {w = w64} (sfits_widen tt c.ranges.a)))

pub is_odd_spec : {M : Type 1} → statement M
is_odd_spec = tie.close (tie.spec cast-is-even is-even-requires returns)
