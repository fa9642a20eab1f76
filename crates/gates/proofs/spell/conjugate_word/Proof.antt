use mathlib.Core.Path.{subst}
use native.Mathlib.Omega.{arith}
use Rattle.gate_theory.specs.Word.{word}
use Rattle.gate_theory.proofs.lemmas.Least.{equation_turn}
use Rattle.gate_theory.proofs.lemmas.Length.{narrow}
use Rattle.gates.specs.Written.{Writes}
use Rattle.gates.proofs.spell.conjugate_word.Statement.{statement}
use Rattle.gates.proofs.spell.conjugate_word.Tie as tie

times-omega-requires : tie.Need-times_omega-requires
times-omega-requires c κs = let a = c.args in omega (arith, (narrow a.k a.u a.t c.requires.1 c.requires.0).1.a)

word-requires : tie.Need-word-requires
word-requires c κs =
    let a = c.args in
    (rw c.times_omega.ensures (equation_turn a.k a.u a.t c.requires.0), c.requires.1)

returns : tie.Need-returns
returns c = let a = c.args in subst (λ z. Writes c.word.result (word a.k a.u z)) c.times_omega.ensures c.word.ensures

pub conjugate_word_spec : {M : Type 1} → statement M
conjugate_word_spec = tie.close (tie.spec times-omega-requires word-requires returns)
