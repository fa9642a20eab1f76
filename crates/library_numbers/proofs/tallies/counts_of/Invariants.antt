-- The first e counts are made. Assumes nothing.
use Rattle.std.proofs.Common.{◌≡◌, length}
use Rattle.library_numbers.specs.declared.Count.{Count}
use Rattle.library_numbers.specs.Numbers.{count_from}
use Rattle.library_numbers.specs.lemmas.Each.{Made}
use Rattle.library_numbers.proofs.tallies.counts_of.Given as goal

abbrev pub invariant-loop-e : goal.invariant-loop-e
invariant-loop-e l = (length l.counts ≡ 21) × Made (λ (n : Count). n) count_from l.fn.t.counts l.counts l.e
