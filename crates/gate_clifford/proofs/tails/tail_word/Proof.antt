use mathlib.Core.Path.{◌∙◌, ap}
use mathlib.Core.List.{◌++◌}
use native.Mathlib.Omega.{arith}
use Rattle.gate_theory.specs.Table.{tail}
use Rattle.gate_clifford.specs.Written.{bytes, tail-short}
use borrow.Author.Rules.{rules}
use Rattle.gate_clifford.proofs.tails.tail_word.Statement.{statement}
use Rattle.gate_clifford.proofs.tails.tail_word.Tie as tie

empty-requires : tie.Need-empty-requires
empty-requires c κs = search rules

tail-requires : tie.Need-tail-requires
tail-requires c κs = search rules

returns : tie.Need-returns
returns c =
    let s = c.args.s in
    let e = c.empty.ensures in
    let a = c.tail.ensures in
    record { letters = a.letters ∙ ap (λ l. l ++ bytes (tail s)) e.0; len = omega (arith, a.len, e.1); room = omega (arith, a.len, e.1, tail-short s) }

pub tail_word_spec : {M : Type 1} → statement M
tail_word_spec = tie.close (tie.spec empty-requires tail-requires returns)
