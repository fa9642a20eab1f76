use Rattle.std.proofs.Common.{◌≡◌, ℕ, ◌*◌, ◌^◌, ltb, ap, ◌∙◌}
use Rattle.std.specs.Int.Signed.{mag}
use mir.Facts.{to_z-of_z}
use Rattle.record_forms.proofs.Steps.{takes-signed, takes-plain, takes-negative}
use Rattle.record_forms.proofs.takes.Goals as goal

pub returns-then-f : goal.returns-then-f
returns-then-f c =
    let e : c.size_of.result ≡ mag c.args.z = rw (to_z-of_z c.ranges.z) at c.size_of.ensures.0 in
    c.below.ensures ∙ ap (λ (n : ℕ). ltb (2 * n) (256 ^ c.args.f.size)) e ∙ takes-signed c.args.f c.args.z c.if-f.true

pub returns-then-z-lt0 : goal.returns-then-z-lt0
returns-then-z-lt0 c = takes-negative c.args.f c.args.z c.if-f.false (rw (to_z-of_z c.ranges.z) at c.if-z-lt0.true)

pub returns : goal.returns
returns c =
    let e : c.size_of-2.result ≡ mag c.args.z = rw (to_z-of_z c.ranges.z) at c.size_of-2.ensures.0 in
    c.below-2.ensures ∙ ap (λ (n : ℕ). ltb n (256 ^ c.args.f.size)) e ∙ takes-plain c.args.f c.args.z c.if-f.false (rw (to_z-of_z c.ranges.z) at c.if-z-lt0.false)
