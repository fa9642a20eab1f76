-- The image question: SPEC, "Questions". It says yes if and only if w is the image of a listed point under the remembered operator.
use Rattle.std.specs.Prelude.{◌≡◌, refl, true, ◌↔◌, Ok}
use Rattle.std.proofs.Common.{sym, ap, ◌∙◌}
use Rattle.ring.specs.declared.Point.{Point}
use Rattle.region.specs.declared.Job.{Job}
use Rattle.region.specs.Selection.{listed}
use Rattle.operator.specs.declared.Operator.{Operator}
use Rattle.operator.specs.Operator.{check_of, image_of, det_whole}
use Rattle.operator.specs.Inverse.{adjugate, times, inverse_of}
use Rattle.operator.specs.lemmas.Undoes.{inverse_special, undoes}
use Rattle.session_stages.specs.World.{undone, is_image}

-- a listed point that the operator sends to w
pub record Sent (j : Job) (g : Operator) (w : Point) : Type 0 where
  pub from : Point
  pub lists : listed j from ≡ true
  pub image : image_of g from ≡ w

pub image-yes : (j : Job) (g : Operator) (w : Point) → check_of g ≡ (Ok tt) → (is_image j g w ≡ true) ↔ Sent j g w
unfolding is_image
image-yes j g w s =
    let h = times (det_whole g) (adjugate g) in
    let e = inverse_special g s in
    let u = undoes g h e in
    let is : undone j (inverse_of g) w ≡ listed j (image_of h w) = rw e refl in
    ((λ y. record { from = image_of h w; lists = sym is ∙ y; image = (u w).1 }), (λ k. is ∙ ap (λ (z : Point). listed j (image_of h z)) (sym k.image) ∙ ap (listed j) (u k.from).0 ∙ k.lists))
