use mathlib.Core.Path.{sym, subst, subst₂}
use Prim.Native.Nat.{◌^◌, ◌≤◌}
use lib.IntN.{pos, nat_abs}
use Rattle.integers.specs.Difference.{◌≼◌}
use Rattle.ring.specs.RootTwo.Sized.{Sized, sized_more, conj_size}
use native.Mathlib.Omega.{arith}
use borrow.Author.Rules.{rules}
use Rattle.question_strips.specs.declared.Strips.{Strips}
use Rattle.question_problems.specs.Lines.{LineWith}
use Rattle.question_problems.specs.Lines.{line-scaled, line_same}
use Rattle.question_problems.proofs.of_strips.Statement.{statement}
use Rattle.question_problems.proofs.of_strips.Tie as tie

balance-requires : tie.Need-balance-u-requires
balance-requires c κs = search rules

scaled-requires : tie.Need-scaled-t-requires
scaled-requires c κs = search rules

fits-requires : tie.Need-fits-requires
fits-requires c κs = search rules

conjugate-requires : tie.Need-conjugate-requires
conjugate-requires c κs = sized_more (2 ^ 17) (2 ^ 60) _ (omega arith) c.balance-u.ensures.size

with-rows-requires : tie.Need-with_rows-requires
with-rows-requires c κs =
    let f = c in
    let b = f in
    let s = b in
    let e = c.scaled-t.ensures in
    let z = c.fits.ensures c.if-fits.true in (
      record { one = subst (λ (t : Strips). pos 1 ≼ t.first.m) (sym e) c.requires.0.one; scale = subst (λ (t : Strips). nat_abs t.first.m ≤ 100) (sym e) c.requires.0.scale; lo = z.0.0; hi = z.0.1 },
      record { one = subst (λ (t : Strips). pos 1 ≼ t.second.m) (sym e) c.requires.1.one; scale = subst (λ (t : Strips). nat_abs t.second.m ≤ 100) (sym e) c.requires.1.scale; lo = z.1.0; hi = z.1.1 },
      subst (λ u. Sized (2 ^ 17) (2 ^ 17) u) (sym c.conjugate.ensures) (conj_size (2 ^ 17) c.balance-u.result c.balance-u.ensures.size),
    )

with-rows-requires-2 : tie.Need-with_rows-requires-else-fits
with-rows-requires-2 c κs = search rules

returns : tie.Need-returns-then-fits
returns c =
    let b = c in
    let s = b in
    line-scaled c.args.s c.balance-u.result _ c.balance-u.ensures (subst₂ (λ t u. LineWith t u c.with_rows.result) c.scaled-t.ensures c.conjugate.ensures c.with_rows.ensures)

returns-2 : tie.Need-returns-else-fits
returns-2 c = line_same c.args.s _ c.with_rows-else-fits.ensures

pub of_strips_spec : {M : Type 1} → statement M
of_strips_spec =
    tie.close
    (tie.spec
    balance-requires
    scaled-requires
    fits-requires
    conjugate-requires
    with-rows-requires
    with-rows-requires-2
    returns
    returns-2)
