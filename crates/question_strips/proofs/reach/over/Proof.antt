use mathlib.Core.Path.{sym, subst}
use Prim.Native.Nat.{ℕ, ◌≤◌}
use native.Mathlib.Omega.{arith}
use borrow.Author.Rules.{rules}
use Rattle.region.specs.declared.Enclosure.{Enclosure}
use Rattle.region.specs.Enclosure.{region_of, radius, enclosed-accepted, InDisk, in_disk}
use Rattle.question_strips.specs.Reach.{Reaches, enclosed-reaches}
use Rattle.question_strips.proofs.reach.over.Statement.{statement}
use Rattle.question_strips.proofs.reach.over.Tie as tie

enclosure-requires : tie.Need-enclosure-requires
enclosure-requires c κs = search rules

over-enclosure-requires : tie.Need-over_enclosure-d-requires
over-enclosure-requires c κs = let s = c in (rw c.enclosure.ensures (enclosed-accepted c.args.region c.requires.0), c.requires.1)

radius-requires : tie.Need-radius-n-requires
radius-requires c κs = search rules

-- what the enclosure says
reached : (c : tie.After-over_enclosure-d) → let s = c.before.before in Reaches c.args.region c.args.u c.args.v c.over_enclosure-d.result
reached c =
    let s = c in
    enclosed-reaches c.args.region c.args.u c.args.v c.over_enclosure-d.result
    (subst (λ (x : Enclosure). Reaches (region_of x) c.args.u c.args.v c.over_enclosure-d.result) c.enclosure.ensures c.over_enclosure-d.ensures)

returns : tie.Need-returns-then-n-eq0
returns c = reached c.before.before

sharpened-requires : tie.Need-sharpened-requires
sharpened-requires c κs =
    let o = c.before.before in
    let s = o.before.before in
    let e = c.radius-n.ensures in
    let h : 1 ≤ radius c.args.region = subst (λ (n : ℕ). 1 ≤ n) e (omega (arith, c.if-n-eq0.false)) in
    (c.requires.0, c.requires.1, reached o, subst (λ (n : ℕ). InDisk c.args.region n) (sym e) (in_disk c.args.region c.requires.0 h))

returns-2 : tie.Need-returns
returns-2 c = search rules

pub over_spec : {M : Type 1} → statement M
over_spec =
    tie.close
    (tie.spec
    enclosure-requires
    over-enclosure-requires
    radius-requires
    returns
    sharpened-requires
    returns-2)
