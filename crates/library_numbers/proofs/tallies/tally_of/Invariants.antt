-- The first e counts are made. Assumes nothing.
use Rattle.std.proofs.Common.{◌≡◌, length}
use Rattle.integers_wide.specs.declared.Size.{Size}
use Rattle.library_numbers.specs.Numbers.{size_from}
use Rattle.library_numbers.specs.lemmas.Each.{Made}
use Rattle.library_numbers.proofs.tallies.tally_of.Given as goal

abbrev pub invariant-loop-e : goal.invariant-loop-e
invariant-loop-e l = (length l.counts ≡ 21) × Made (λ (n : Size). n) size_from l.fn.c.counts l.counts l.e
