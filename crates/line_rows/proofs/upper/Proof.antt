use mathlib.Core.Path.{refl, sym, subst}
use Prim.Native.Nat.{◌^◌}
use native.Mathlib.Omega.{arith}
use borrow.Author.Rules.{rules}
use Rattle.ring.specs.RootTwo.Sized.{Sized, conj_size, sized_more}
use Rattle.line_rows.proofs.upper.Statement.{statement}
use Rattle.line_rows.proofs.upper.Tie as tie

pair-requires : tie.Need-pair-z-requires
pair-requires c κs = search rules

conjugate-requires : tie.Need-conjugate-requires
conjugate-requires c κs = sized_more (2 ^ 41) (2 ^ 60) _ (omega arith) c.pair-z.ensures.1

bounded-requires : tie.Need-bounded-requires
bounded-requires c κs =
    let p = c.pair-z.ensures.1 in
    let n = c.requires in
    (n.second, n.first, subst (Sized (2 ^ 41) (2 ^ 41)) (sym c.conjugate.ensures) (conj_size (2 ^ 41) _ p), p)

returns : tie.Need-returns
returns c =
    let d = c in
    rw (c.bounded.ensures, d.conjugate.ensures, d.pair-z.ensures.0) refl

pub upper_spec : {M : Type 1} → statement M
upper_spec = tie.close (tie.spec pair-requires conjugate-requires bounded-requires returns)
