use Rattle.std.proofs.Common.{arith}
use Rattle.gate_tariff.specs.lemmas.Laws.{letters-small}
use Rattle.gate_tariff.proofs.price.word_ticks.Goals as goal

pub overflow_add-result : goal.overflow_add-result
overflow_add-result c = omega (arith, c.sum.ensures, letters-small c.args.tariff c.requires c.args.word.now c.if-not-short.false)
