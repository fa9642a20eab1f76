use Rattle.std.proofs.Common.{◌≡◌, ◌+◌, ◌*◌, ◌≤◌, length, drop}
use Rattle.gate_tariff.specs.Tray.{words_of, total_of}
use Rattle.gate_tariff.proofs.Words.{total_from}
use Rattle.gate_tariff.proofs.tray_words.total.Given as goal

abbrev pub invariant-loop-i : goal.invariant-loop-i
invariant-loop-i l = (l._i + length (words_of (drop l.at l.s)) ≡ l.n) × (l.sum + 65536000 * length (words_of (drop l.at l.s)) ≤ 524288000) × (total_from l.tariff l.sum (words_of (drop l.at l.s)) ≡ total_of l.tariff (words_of l.s))
