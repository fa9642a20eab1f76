use Rattle.std.proofs.Common.{◌≡◌, ◌+◌, drop}
use Rattle.gate_tariff.specs.Index.{index_of}
use Rattle.gate_tariff.proofs.tray_words.find.Given as goal

abbrev pub invariant-loop-i : goal.invariant-loop-i
invariant-loop-i l = l.i + index_of l.b (drop l.i l.s) ≡ l.at + index_of l.b (drop l.at l.s)
