use Rattle.gate_qasm.proofs.Reading.{gate_h, gate_s, gate_t}
use Rattle.gate_qasm.proofs.letters.letter.Statement.{statement}
use Rattle.gate_qasm.proofs.letters.letter.Tie as tie

returns : tie.Need-returns-in-104
returns c = gate_h _ c.in-104.is

returns-2 : tie.Need-returns-in-115
returns-2 c = gate_s _ c.in-115.is

returns-3 : tie.Need-returns-in_default
returns-3 c = let r = c.in_default.in_default-own.rest in gate_t _ r.0.1 r.1

pub letter_spec : {M : Type 1} → statement M
letter_spec = tie.close (tie.spec returns returns-2 returns-3)
