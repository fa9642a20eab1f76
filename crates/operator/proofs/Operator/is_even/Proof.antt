use mathlib.Core.Path.{◌∙◌, ap₂}
use mathlib.Core.Bool.{◌&&◌}
use lib.IntN.{◌+ℤ◌}
use Rattle.integers.specs.Parity.{even}
use Rattle.operator.specs.Operator.{even_parity}
use Rattle.operator.specs.Bounded.{Fits16, bits16}
use borrow.Author.Rules.{rules}
use Rattle.operator.proofs.Operator.is_even.Statement.{statement}
use Rattle.operator.proofs.Operator.is_even.Tie as tie

is-even-requires : tie.Need-is_even-requires
is-even-requires c κs = search rules

is-even-requires-2 : tie.Need-is_even-requires-2
is-even-requires-2 c κs = search rules

fits : (c : tie.Start) → Fits16 c.args.self
fits c = search rules

returns : tie.Need-returns
unfolding even_parity
returns c =
    let d = c in
    let r = bits16 (fits d.before.before.before.before.before.before.before.before.before.before) in
    ap₂ ◌&&◌ (d.is_even.ensures ∙ (λ i. even (r.a i +ℤ r.c i +ℤ r.ai i +ℤ r.ci i))) (c.is_even-2.ensures ∙ (λ i. even (r.b i +ℤ r.d i +ℤ r.bi i +ℤ r.di i)))

pub is_even_spec : {M : Type 1} → statement M
is_even_spec = tie.close (tie.spec is-even-requires is-even-requires-2 returns)
