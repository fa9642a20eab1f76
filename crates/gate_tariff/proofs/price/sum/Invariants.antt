use Rattle.std.proofs.Common.{◌≡◌, ◌+◌, ◌*◌, ◌≤◌}
use Rattle.gate_tariff.proofs.Prices.{sum_from}
use Rattle.gate_tariff.proofs.price.sum.Given as goal

abbrev pub invariant-loop-b : goal.invariant-loop-b
invariant-loop-b l = (l.n ≤ 1000000 * l.b-index) × (l.n + sum_from l.tariff l.word l.b-index ≡ sum_from l.tariff l.word 0)
