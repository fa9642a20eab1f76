-- n is the count of the words from i on.
use Rattle.std.proofs.Common.{◌≡◌, ℕ, ◌+◌, ◌≤◌, List, length, drop, sym, ap, ◌∙◌, le_refl, arith}
use Rattle.gate_tariff.specs.Tray.{words_of}
use Rattle.gate_tariff.proofs.Words.{count-feed, count-other, count-end}
use Rattle.gate_tariff.proofs.tray_words.words_of.Goals as goal

pub loop-i-init : goal.loop-i-init
loop-i-init c = (omega arith, sym (count-end c.args.s.now _ (le_refl _)))

pub loop-i-preserved-then-s-i-eq10 : goal.loop-i-preserved-then-s-i-eq10
loop-i-preserved-then-s-i-eq10 c =
    (omega arith, omega (arith, c.loop-i.invariant.1, count-feed c.args.s.now c.loop-i.i (omega arith) (omega arith) c.if-s-i-eq10.true))

pub loop-i-preserved : goal.loop-i-preserved
loop-i-preserved c =
    (omega arith, c.loop-i.invariant.1 ∙ sym (count-other c.args.s.now c.loop-i.i (omega arith) (omega arith) c.if-s-i-eq10.false))

pub returns : goal.returns
returns c =
    let e : c.loop-i.i ≡ 0 = omega arith in
    c.loop-i.invariant.1 ∙ ap (λ (i : ℕ). length (words_of (drop i c.args.s.now))) e
