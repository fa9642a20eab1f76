use Rattle.std.proofs.Common.{sym, ◌∙◌}
use Rattle.library_numbers.specs.Numbers.{bench_is}
use Rattle.library_numbers.proofs.forth.state_of.Goals as goal

pub returns-in-Early : goal.returns-in-Early
returns-in-Early c = let e = c.early.ensures in bench_is c.early.result (e.0 ∙ sym c.in-Early.is) (e.1 ∙ c.counts_of-counts.ensures)

pub returns-in-Walking : goal.returns-in-Walking
returns-in-Walking c = let e = c.walking.ensures in bench_is c.walking.result (e.0 ∙ sym c.in-Walking.is) (e.1 ∙ c.counts_of-counts.ensures)
