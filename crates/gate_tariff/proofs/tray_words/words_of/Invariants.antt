use Rattle.std.proofs.Common.{◌≡◌, ◌+◌, ◌≤◌, length, drop}
use Rattle.gate_tariff.specs.Tray.{words_of}
use Rattle.gate_tariff.proofs.tray_words.words_of.Given as goal

abbrev pub invariant-loop-i : goal.invariant-loop-i
invariant-loop-i l = (l.n + l.i ≤ length l.s) × (l.n ≡ length (words_of (drop l.i l.s)))
