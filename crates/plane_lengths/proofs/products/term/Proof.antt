use borrow.Author.Rules.{rules}
use Prim.Native.Nat.{◌*◌}
use native.Mathlib.Omega.{arith}
use lib.IntN.{◌*ℤ◌}
use mir.Syntax.{w64}
use mir.Val.{SFits}
use mir.Facts.{sfits_widen}
use Rattle.integers.specs.lemmas.Size.{size-*≤, size→fits, fits→size}
use Rattle.plane_lengths.proofs.products.term.Statement.{statement}
use Rattle.plane_lengths.proofs.products.term.Tie as tie

fits : (c : tie.Start) → let a = c.args in SFits w64 a.u × SFits w64 a.v × SFits w64 (a.u *ℤ a.v) × SFits w64 a.a × SFits w64 (a.u *ℤ a.v *ℤ a.a)
fits c =
    let h = size-*≤ c.args.u c.args.v 32768 32768 (fits→size c.ranges.u) (fits→size c.ranges.v) in
    let k = size-*≤ (c.args.u *ℤ c.args.v) c.args.a (32768 * 32768) 2147483648 h (fits→size c.ranges.a) in
    (sfits_widen tt c.ranges.u, sfits_widen tt c.ranges.v, size→fits (omega arith), sfits_widen tt c.ranges.a, size→fits (omega arith))

cast-result : tie.Need-overflow_cast-result
cast-result c = let h = fits c in search rules

cast-result-2 : tie.Need-overflow_cast-result-2
cast-result-2 c = let h = fits c in search rules

mul-result : tie.Need-overflow_mul-result
mul-result c = let h = fits c in search rules

cast-result-3 : tie.Need-overflow_cast-result-3
cast-result-3 c = let h = fits c in search rules

mul-result-2 : tie.Need-overflow_mul-result-2
mul-result-2 c = let h = fits c in search rules

returns : tie.Need-returns
returns c = let h = fits c in search rules

pub term_spec : {M : Type 1} → statement M
term_spec = tie.close (tie.spec cast-result cast-result-2 mul-result cast-result-3 mul-result-2 returns)
