-- `counted` meets its contract. Assumes nothing.
use Rattle.std.proofs.Common.{ℕ, List, ap, ◌∙◌}
use Rattle.session_tally.specs.Spread.{added}
use Rattle.session_tallying.proofs.counted.Goals as goal

pub spread-requires : goal.spread-requires
spread-requires c = rw c.in-Walking.is at c.requires

pub returns-in-Early : goal.returns-in-Early
returns-in-Early c = absurd (rw c.in-Early.is at c.requires)

pub returns-in-Walking : goal.returns-in-Walking
returns-in-Walking c =
    let e = c.plus.ensures ∙ ap (λ (l : List ℕ). added l c.args.t.counts) c.spread.ensures in
    rw c.in-Walking.is (λ i. record { counts = e i })
