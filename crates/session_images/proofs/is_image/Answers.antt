use Rattle.std.proofs.Common.{refl, sym, ◌∙◌}
use Rattle.session_stages.specs.World.{is_image}
use Rattle.session_images.proofs.is_image.Goals as goal

pub returns-in-Ok : goal.returns-in-Ok
unfolding is_image
returns-in-Ok c = c.lists_wide.ensures ∙ rw (sym c.in-Ok.ensures.inverse, c.image.ensures) refl

pub returns-in-Err : goal.returns-in-Err
unfolding is_image
returns-in-Err c = rw (sym c.in-Err.ensures.inverse) refl
