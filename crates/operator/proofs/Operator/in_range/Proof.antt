use mathlib.Core.Path.{◌∙◌, ap₂}
use mathlib.Core.Bool.{◌&&◌}
use Rattle.record_ranges.specs.Ranges.{entries}
use Rattle.operator.specs.Operator.{in_range}
use Rattle.operator.specs.Bounded.{Fits16, bits16}
use borrow.Author.Rules.{rules}
use Rattle.operator.proofs.Operator.in_range.Statement.{statement}
use Rattle.operator.proofs.Operator.in_range.Tie as tie

entries-requires : tie.Need-entries-requires
entries-requires c κs = search rules

entries-requires-2 : tie.Need-entries-requires-2
entries-requires-2 c κs = search rules

fits : (c : tie.Start) → Fits16 c.args.self
fits c = search rules

returns : tie.Need-returns
unfolding in_range
returns c =
    let d = c in
    let r = bits16 (fits d.before.before.before.before.before.before.before.before.before.before) in
    ap₂ ◌&&◌ (d.entries.ensures ∙ (λ i. entries (r.a i) (r.b i) (r.c i) (r.d i))) (c.entries-2.ensures ∙ (λ i. entries (r.ai i) (r.bi i) (r.ci i) (r.di i)))

pub in_range_spec : {M : Type 1} → statement M
in_range_spec = tie.close (tie.spec entries-requires entries-requires-2 returns)
