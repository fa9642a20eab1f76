use Rattle.std.proofs.Common.{rules, ◌≡◌, refl, sym, ap, ◌∙◌, ℤ, SFits, of_z, to_z, to_z-of_z, w32}
use borrow.Author.Tests.{eqb-true, not-false}
use Rattle.ring.specs.declared.Point.{Point}
use Rattle.list_lines.specs.Lines.{head_text}
use Rattle.list_lines.proofs.begins_row.Goals as goal

same : (x y : ℤ) → SFits w32 x → SFits w32 y → of_z w32 x ≡ of_z w32 y → x ≡ y
same x y f g e = sym (to_z-of_z f) ∙ ap (to_z w32) e ∙ to_z-of_z g

heads : (u v : Point) → u.a ≡ v.a → u.b ≡ v.b → u.c ≡ v.c → head_text u ≡ head_text v
unfolding head_text
heads u v e f g = rw (e, f, g) refl

pub returns-else-u-v-2 : goal.returns-else-u-v-2
returns-else-u-v-2 c e =
    let u = c.args.u in
    let v = c.args.v in
    let ua : SFits w32 u.a = search rules in
    let ub : SFits w32 u.b = search rules in
    let uc : SFits w32 u.c = search rules in
    let va : SFits w32 v.a = search rules in
    let vb : SFits w32 v.b = search rules in
    let vc : SFits w32 v.c = search rules in
    heads u v (same u.a v.a ua va c.if-u-v-2.false.0) (same u.b v.b ub vb c.if-u-v-2.false.1) (same u.c v.c uc vc (eqb-true _ _ (not-false _ e)))
