use mathlib.Core.Path.{refl}
use Rattle.gate_tariff.specs.Tariff.{in_range}
use Rattle.gate_tariff.proofs.price.in_range.Statement.{statement}
use Rattle.gate_tariff.proofs.price.in_range.Tie as tie

returns : tie.Need-returns
unfolding in_range
returns c = refl

pub in_range_spec : {M : Type 1} → statement M
in_range_spec = tie.close (tie.spec returns)
