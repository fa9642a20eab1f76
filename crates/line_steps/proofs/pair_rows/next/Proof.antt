use mathlib.Core.Path.{◌∙◌}
use borrow.Author.Tests.{not-true}
use Rattle.line_steps.specs.Walk.{found_plain}
use Rattle.line_steps.proofs.pair_rows.next.Statement.{statement}
use Rattle.line_steps.proofs.pair_rows.next.Tie as tie

is-pair-requires : tie.Need-is_pair-requires
is-pair-requires c κs = let s = c in (s.requires.0.first, s.requires.0.second, s.requires.1)

returns : tie.Need-returns-then-is_pair
returns c =
    let p = c in
    let i = p in
    let s = i in
    found_plain s.args.c s.requires.0 s.args.p (i.if-not-thin.true) (p.is_pair.ensures c.if-is_pair.true)

onward-requires : tie.Need-onward-requires
onward-requires c κs = c.requires

returns-2 : tie.Need-returns
returns-2 c = c.onward.ensures

pub next_spec : {M : Type 1} → statement M
next_spec = tie.close (tie.spec is-pair-requires returns onward-requires returns-2)
