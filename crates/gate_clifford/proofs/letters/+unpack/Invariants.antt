use Rattle.gate_clifford.proofs.letters.+unpack.Given as goal

abbrev pub decreases-unpack : goal.decreases-unpack
decreases-unpack l = l.n
