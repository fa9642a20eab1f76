use mathlib.Core.Path.{ap, ◌∙◌}
use borrow.Author.Rules.{rules}
use Rattle.tray.specs.Session.{spot-hands, end-hands}
use Rattle.tray.specs.declared.Stage.TheVariants as S
use Rattle.tray.proofs.from_spot.Statement.{statement}
use Rattle.tray.proofs.from_spot.Tie as tie

enum_told : tie.Need-enum_told-1
enum_told c = search rules

handed-requires : tie.Need-handed-requires
handed-requires c κs = search rules

enum-told-2 : tie.Need-enum_told-in-None
enum-told-2 c = search rules

refused-requires : tie.Need-refused-requires
refused-requires c κs = search rules

same_length : tie.Need-shape_of-out
same_length c = search rules

returns : tie.Need-returns-in-Some
returns c =
    let h = c in
    let e = h in
    let s = e in
    rw (c.requires, spot-hands c.args.s.tray c.args.p _ c.args.out.now c.in-Some.is) c.handed.ensures

returns-2 : tie.Need-returns-in-None
returns-2 c =
    let e = c in
    let s = e in
    rw (c.refused.ensures.0, c.refused.ensures.1) (end-hands c.args.s c.args.out.now (c.requires ∙ ap S.Walking c.in-None.is))

pub from_spot_spec : {M : Type 1} → statement M
from_spot_spec =
    tie.close
    (tie.spec enum_told handed-requires enum-told-2 refused-requires same_length returns returns-2)
