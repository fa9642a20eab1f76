use mathlib.Core.Path.{ap, ◌∙◌}
use borrow.Author.Rules.{rules}
use Rattle.tray_model.specs.Session as Model
use Rattle.tray.specs.Session.{world, meaning}
use Rattle.tray.proofs.take.Statement.{statement}
use Rattle.tray.proofs.take.Tie as tie

take-requires : tie.Need-take-requires
take-requires c κs = search rules

taken-requires : tie.Need-taken-requires
taken-requires c κs = search rules

returns : tie.Need-returns
returns c = c.taken.ensures ∙ ap (Model.begun world (meaning c.args.s)) c.take.ensures

pub take_spec : {M : Type 1} → statement M
take_spec = tie.close (tie.spec take-requires taken-requires returns)
