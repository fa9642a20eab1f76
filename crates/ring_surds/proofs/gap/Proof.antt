use borrow.Author.Rules.{rules}
use native.Mathlib.Omega.{arith}
use lib.IntN.{◌-ℤ◌, ◌*ℤ◌}
use mir.Syntax.{w64}
use mir.Val.{SFits}
use Rattle.integers.specs.lemmas.Size.{size--, size→fits}
use Rattle.ring_surds.proofs.gap.Statement.{statement}
use Rattle.ring_surds.proofs.gap.Tie as tie

fits : (c : tie.Start) → let a = c.args in SFits w64 (a.m *ℤ a.x) × SFits w64 (a.n *ℤ a.y) × SFits w64 (a.m *ℤ a.x -ℤ a.n *ℤ a.y)
fits c = let d = size-- (c.args.m *ℤ c.args.x) (c.args.n *ℤ c.args.y) in (size→fits (omega arith), size→fits (omega arith), size→fits (omega arith))

mul-result : tie.Need-overflow_mul-result
mul-result c = let f = fits c in search rules

mul-result-2 : tie.Need-overflow_mul-result-2
mul-result-2 c = let f = fits c in search rules

sub-result : tie.Need-overflow_sub-result
sub-result c = let f = fits c in search rules

returns : tie.Need-returns
returns c = let f = fits c in search rules

pub gap_spec : {M : Type 1} → statement M
gap_spec = tie.close (tie.spec mul-result mul-result-2 sub-result returns)
