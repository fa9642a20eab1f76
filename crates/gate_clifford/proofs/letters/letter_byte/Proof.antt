use mathlib.Core.Path.{sym}
use native.Mathlib.Omega.{arith}
use Rattle.gate_clifford.specs.Written.{other_letter}
use borrow.Author.Rules.{rules}
use Rattle.gate_clifford.proofs.letters.letter_byte.Statement.{statement}
use Rattle.gate_clifford.proofs.letters.letter_byte.Tie as tie

returns : tie.Need-returns-then-d-eq1
returns c = search rules

returns-2 : tie.Need-returns-then-d-eq2
returns-2 c = search rules

returns-3 : tie.Need-returns
returns-3 c = sym (other_letter c.args.d (omega arith) (omega arith))

pub letter_byte_spec : {M : Type 1} → statement M
letter_byte_spec = tie.close (tie.spec returns returns-2 returns-3)
