-- What is added and what is ahead come to the whole sum.
use Rattle.std.proofs.Common.{ℕ, ◌+◌, ◌≤◌, get_or, arith}
use Rattle.gate_alphabet.specs.Letters.{letter_of}
use Rattle.gate_tariff.specs.lemmas.Laws.{price-small}
use Rattle.gate_tariff.proofs.Prices.{sum-end, sum_more}
use Rattle.gate_tariff.proofs.price.sum.Goals as goal

pub overflow_add-n : goal.overflow_add-n
overflow_add-n c =
    omega (arith, c.price.ensures, c.from-n.ensures, price-small c.args.tariff c.requires.0 (letter_of (get_or c.args.word.now c.loop-b.b-index 0)))

pub loop-b-preserved : goal.loop-b-preserved
loop-b-preserved c =
    let p = price-small c.args.tariff c.requires.0 (letter_of (get_or c.args.word.now c.loop-b.b-index 0)) in
    let e = c.price.ensures in
    let f = c.from-n.ensures in
    (omega arith, omega (arith, sum_more c.args.tariff c.args.word.now c.loop-b.b-index (omega arith), c.loop-b.invariant.1))

pub returns : goal.returns
returns c = omega (arith, c.loop-b.invariant.1, sum-end c.args.tariff c.args.word.now c.loop-b.b-index (omega arith))
