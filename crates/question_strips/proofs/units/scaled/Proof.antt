use mathlib.Core.Path.{sym, ◌∙◌, ap, ap₂, subst}
use Prim.Native.Nat.{◌^◌}
use native.Mathlib.Omega.{arith}
use Rattle.ring.specs.RootTwo.Sized.{sized_more}
use Rattle.line_rows.specs.declared.Band.{Band}
use Rattle.line_rows.specs.Steps.{times_of}
use Rattle.question_strips.specs.Units.{Unit, unit-conj}
use Rattle.question_strips.proofs.units.scaled.Statement.{statement}
use Rattle.question_strips.proofs.units.scaled.Tie as tie

times-requires : tie.Need-times-requires
times-requires c κs = let p = c.requires in (p.0, p.2)

conjugate-requires : tie.Need-conjugate-requires
conjugate-requires c κs = sized_more (2 ^ 17) (2 ^ 60) _ (omega arith) c.requires.2.size

times-requires-2 : tie.Need-times-requires-2
times-requires-2 c κs =
    let s = c in
    (c.requires.1, subst Unit (sym c.conjugate.ensures) (unit-conj c.args.u c.requires.2))

returns : tie.Need-returns
returns c =
    let s = c in
    ap₂ (λ (x y : Band). record { first = x; second = y }) c.times.ensures (c.times-2.ensures ∙ ap (times_of c.args.s.second) c.conjugate.ensures)

pub scaled_spec : {M : Type 1} → statement M
scaled_spec = tie.close (tie.spec times-requires conjugate-requires times-requires-2 returns)
