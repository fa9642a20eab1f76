use mathlib.Core.Path.{sym, ◌∙◌, ap₂}
use lib.IntN.{◌+ℤ◌}
use mir.Syntax.{w32}
use Rattle.integers.specs.lemmas.Size.{back}
use Rattle.ring.specs.Point.{ext, sum-parts}
use Rattle.gates.specs.lemmas.Fit.{read}
use borrow.Author.Rules.{rules}
use Rattle.gates.proofs.elements.plus.Statement.{statement}
use Rattle.gates.proofs.elements.plus.Tie as tie

add-requires : tie.Need-add-requires
add-requires c κs = search rules

add-requires-2 : tie.Need-add-requires-2
add-requires-2 c κs = search rules

add-requires-3 : tie.Need-add-requires-3
add-requires-3 c κs = search rules

add-requires-4 : tie.Need-add-requires-4
add-requires-4 c κs = search rules

returns : tie.Need-returns
returns c =
    let sc = c in
    let sb = sc in
    let sa = sb in
    let v = c.args.v in
    let w = c.args.w in
    let h = c.requires in
    ext
    (back w32 c.add.type_inv ∙ c.add.ensures ∙ ap₂ ◌+ℤ◌ (read v.a h.0.a) (read w.a h.1.a))
    (back w32 c.add-2.type_inv ∙ c.add-2.ensures ∙ ap₂ ◌+ℤ◌ (read v.b h.0.b) (read w.b h.1.b))
    (back w32 c.add-3.type_inv ∙ c.add-3.ensures ∙ ap₂ ◌+ℤ◌ (read v.c h.0.c) (read w.c h.1.c))
    (back w32 c.add-4.type_inv ∙ c.add-4.ensures ∙ ap₂ ◌+ℤ◌ (read v.d h.0.d) (read w.d h.1.d))
    ∙ sym (sum-parts v w)

pub plus_spec : {M : Type 1} → statement M
plus_spec = tie.close (tie.spec add-requires add-requires-2 add-requires-3 add-requires-4 returns)
