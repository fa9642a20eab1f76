use mathlib.Core.Path.{◌≡◌, sym, subst}
use mathlib.Core.Bool.{true}
use borrow.Author.Rules.{rules}
use Rattle.region.specs.declared.Enclosure.{Enclosure}
use Rattle.region.specs.Region.{accepted}
use Rattle.region.specs.Enclosure.{region_of}
use Rattle.question_strips.specs.Reach.{Reaches}
use Rattle.question_strips.proofs.reach.over_enclosure.Statement.{statement}
use Rattle.question_strips.proofs.reach.over_enclosure.Tie as tie

enum-known-around : tie.Need-enum_known-around
enum-known-around c = search rules

over-rectangle-requires : tie.Need-over_rectangle-requires
over-rectangle-requires c κs =
    let s = c in
    (subst (λ (x : Enclosure). accepted (region_of x) ≡ true) c.in-Rectangle.is c.requires.0, c.requires.1)

enum-known-around-2 : tie.Need-enum_known-around-in-Ellipse-1
enum-known-around-2 c = search rules

over-ellipse-requires : tie.Need-over_ellipse-requires
over-ellipse-requires c κs =
    let s = c in
    (subst (λ (x : Enclosure). accepted (region_of x) ≡ true) c.in-Ellipse.is c.requires.0, c.requires.1)

returns : tie.Need-returns-in-Rectangle
returns c =
    let s = c in
    subst (λ (x : Enclosure). Reaches (region_of x) c.args.u c.args.v c.over_rectangle.result) (sym c.in-Rectangle.is) c.over_rectangle.ensures

returns-2 : tie.Need-returns-in-Ellipse
returns-2 c =
    let s = c in
    subst (λ (x : Enclosure). Reaches (region_of x) c.args.u c.args.v c.over_ellipse.result) (sym c.in-Ellipse.is) c.over_ellipse.ensures

pub over_enclosure_spec : {M : Type 1} → statement M
over_enclosure_spec =
    tie.close
    (tie.spec
    enum-known-around
    over-rectangle-requires
    enum-known-around-2
    over-ellipse-requires
    returns
    returns-2)
