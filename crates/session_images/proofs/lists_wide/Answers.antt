use Rattle.std.proofs.Common.{sym, ◌∙◌}
use Rattle.question_preimages.specs.Image.{narrowed-listed, wide-unlisted}
use Rattle.session_images.proofs.lists_wide.Goals as goal

pub returns-in-Some : goal.returns-in-Some
returns-in-Some c = c.lists.ensures ∙ narrowed-listed c.args.job c.args.v _ (sym c.in-Some.ensures)

pub returns-in-None : goal.returns-in-None
returns-in-None c = wide-unlisted c.args.job c.args.v (sym c.in-None.ensures)
