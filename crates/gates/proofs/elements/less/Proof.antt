use mathlib.Core.Path.{sym, ◌∙◌, ap₂}
use lib.IntN.{◌-ℤ◌}
use mir.Syntax.{w32}
use Rattle.integers.specs.lemmas.Size.{back}
use Rattle.ring.specs.Point.{ext}
use Rattle.gates.specs.lemmas.Fit.{read}
use Rattle.gate_theory.specs.Points.{minus_parts}
use borrow.Author.Rules.{rules}
use Rattle.gates.proofs.elements.less.Statement.{statement}
use Rattle.gates.proofs.elements.less.Tie as tie

sub-requires : tie.Need-sub-requires
sub-requires c κs = search rules

sub-requires-2 : tie.Need-sub-requires-2
sub-requires-2 c κs = search rules

sub-requires-3 : tie.Need-sub-requires-3
sub-requires-3 c κs = search rules

sub-requires-4 : tie.Need-sub-requires-4
sub-requires-4 c κs = search rules

returns : tie.Need-returns
returns c =
    let sc = c in
    let sb = sc in
    let sa = sb in
    let v = c.args.v in
    let w = c.args.w in
    let h = c.requires in
    ext
    (back w32 c.sub.type_inv ∙ c.sub.ensures ∙ ap₂ ◌-ℤ◌ (read v.a h.0.a) (read w.a h.1.a))
    (back w32 c.sub-2.type_inv ∙ c.sub-2.ensures ∙ ap₂ ◌-ℤ◌ (read v.b h.0.b) (read w.b h.1.b))
    (back w32 c.sub-3.type_inv ∙ c.sub-3.ensures ∙ ap₂ ◌-ℤ◌ (read v.c h.0.c) (read w.c h.1.c))
    (back w32 c.sub-4.type_inv ∙ c.sub-4.ensures ∙ ap₂ ◌-ℤ◌ (read v.d h.0.d) (read w.d h.1.d))
    ∙ sym (minus_parts v w)

pub less_spec : {M : Type 1} → statement M
less_spec = tie.close (tie.spec sub-requires sub-requires-2 sub-requires-3 sub-requires-4 returns)
