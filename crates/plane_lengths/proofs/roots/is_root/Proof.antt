use mathlib.Core.Bool.{false≢true}
use Prim.Native.Nat.{◌-◌, ◌*◌, ◌^◌, ◌≤◌, ◌<◌}
use native.Mathlib.Nat.{mul-le-mul}
use native.Mathlib.Omega.{arith}
use borrow.Author.Tests.{ltb-true}
use Rattle.plane_lengths.specs.Least.{ceil_sqrt_is}
use Rattle.plane_lengths.proofs.roots.is_root.Statement.{statement}
use Rattle.plane_lengths.proofs.roots.is_root.Tie as tie

returns : tie.Need-returns-then-m-eq0
returns c = λ e. absurd (false≢true e)

returns-2 : tie.Need-returns-then-m-ge1073741824
returns-2 c = λ e. absurd (false≢true e)

mul-if3 : tie.Need-overflow_mul-m
mul-if3 c = let m = c.args.m in let h : m ≤ 2 ^ 30 = omega arith in omega (arith, mul-le-mul h h)

returns-3 : tie.Need-returns-then-m-n
returns-3 c = λ e. absurd (false≢true e)

sub-result : tie.Need-overflow_sub-result
sub-result c = omega arith

sub-result-2 : tie.Need-overflow_sub-result-2
sub-result-2 c = omega arith

mul-result : tie.Need-overflow_mul-result
mul-result c = let m = c.args.m in let h : m - 1 ≤ 2 ^ 30 = omega arith in omega (arith, mul-le-mul h h)

returns-4 : tie.Need-returns
returns-4 c = λ e.
    let s = c in
    let m = s.args.m in
    let b : (m - 1) * (m - 1) < s.args.n = ltb-true ((m - 1) * (m - 1)) s.args.n e in
    ceil_sqrt_is s.args.n m (omega arith) (λ h. omega arith) (λ k h. let l : k ≤ m - 1 = omega arith in omega (arith, mul-le-mul l l))

pub is_root_spec : {M : Type 1} → statement M
is_root_spec =
    tie.close
    (tie.spec returns returns-2 mul-if3 returns-3 sub-result sub-result-2 mul-result returns-4)
