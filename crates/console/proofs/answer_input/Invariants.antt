use Rattle.console.proofs.answer_input.Given as goal

abbrev pub decreases-loop-reads : goal.decreases-loop-reads
decreases-loop-reads g l = l.reads
