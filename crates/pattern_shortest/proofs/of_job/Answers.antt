use Rattle.std.specs.Prelude.{◌≡◌, suc, ◌+◌, ◌-◌}
use Rattle.std.proofs.Common.{sym, ap, ◌∙◌, arith}
use Rattle.pattern_shortest.specs.Pattern.{found_at, from_scale, tells}
use Rattle.pattern_shortest.specs.lemmas.Turn.{all-scales, scale-found, scale-missing, no_scale}
use Rattle.pattern_shortest.proofs.of_job.Goals as goal

pub loop-i-init : goal.loop-i-init
loop-i-init c = all-scales c.args.job ∙ ap (λ n. from_scale c.args.job n 0) (omega arith)

pub returns-in-At : goal.returns-in-At
returns-in-At c =
    let j = c.args.job in
    let e : suc j.k - c.loop-i.i ≡ suc (j.k - c.loop-i.i) = omega arith in
    tells (scale-found j _ c.loop-i.i (sym (c.first.ensures ∙ ap found_at c.scaled.ensures) ∙ c.in-At.is) ∙ sym (c.loop-i.invariant ∙ ap (λ n. from_scale j n c.loop-i.i) e))

pub loop-i-preserved : goal.loop-i-preserved
loop-i-preserved c =
    let j = c.args.job in
    let e : suc j.k - c.loop-i.i ≡ suc (j.k - c.loop-i.i) = omega arith in
    let f : j.k - c.loop-i.i ≡ suc j.k - (c.loop-i.i + 1) = omega arith in
    let g : suc c.loop-i.i ≡ c.loop-i.i + 1 = omega arith in
    c.loop-i.invariant ∙ ap (λ n. from_scale j n c.loop-i.i) e
    ∙ scale-missing j _ c.loop-i.i (sym (c.first.ensures ∙ ap found_at c.scaled.ensures) ∙ c.in_default.is)
    ∙ ap (λ n. from_scale j n (suc c.loop-i.i)) f ∙ ap (from_scale j (suc j.k - (c.loop-i.i + 1))) g

pub returns : goal.returns
returns c =
    let j = c.args.job in
    tells (no_scale j (suc j.k - c.loop-i.i) c.loop-i.i (omega arith) ∙ sym c.loop-i.invariant)

-- the top scale is the last
pub returns-in_default : goal.returns-in_default
returns-in_default c =
    let j = c.args.job in
    let e : suc j.k - c.loop-i.i ≡ suc (j.k - c.loop-i.i) = omega arith in
    let later = c.loop-i.invariant ∙ ap (λ n. from_scale j n c.loop-i.i) e ∙ scale-missing j (j.k - c.loop-i.i) c.loop-i.i (sym (c.first.ensures ∙ ap found_at c.scaled.ensures) ∙ c.in_default.is) in
    tells (no_scale j (j.k - c.loop-i.i) (suc c.loop-i.i) (omega arith) ∙ sym later)
