-- The first i letters stand in place; where there is no room for all, none does.
use Rattle.std.proofs.Common.{◌≡◌, ◌/◌, ◌≤◌, ◌<◌, length, refl, arith}
use Rattle.gate_qasm.proofs.Reading.{letter-more, word-all, word_none}
use Rattle.gate_qasm.proofs.letters.put_word.Goals as goal
use Rattle.gate_qasm.proofs.letters.put_word.Goals.{then-fits, else-fits}

pub loop-i-preserved : goal.loop-i-preserved
loop-i-preserved c = elim c.if-fits.branch [
  | then-fits w ↦ letter-more c.args.text.now c.args.word.now c.loop-i.i c.letter.result c.loop-i.word (omega arith) (omega arith) c.loop-i.invariant c.letter.ensures
  | else-fits w ↦ absurd (omega arith)
]

pub returns : goal.returns
returns c = (
  refl,
  elim c.if-fits.branch [
    | then-fits w ↦ word-all c.args.text.now c.args.word.now (omega arith) c.loop-i.i c.loop-i.word (omega arith) c.loop-i.invariant
    | else-fits w ↦ word_none c.args.text.now c.args.word.now (omega arith) c.loop-i.i c.loop-i.word (omega arith) c.loop-i.invariant
  ],
)
