use Rattle.pattern_apart.proofs.share.divisor.Given as goal

abbrev pub decreases-loop-b : goal.decreases-loop-b
decreases-loop-b l = l.b
