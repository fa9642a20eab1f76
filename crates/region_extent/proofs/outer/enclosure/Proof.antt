use mathlib.Core.Path.{sym, ◌∙◌, ap}
use borrow.Author.Rules.{rules}
use Rattle.region.specs.declared.Enclosure.TheVariants as E
use Rattle.region.specs.Enclosure.{enclosed}
use Rattle.region_extent.proofs.outer.enclosure.Statement.{statement}
use Rattle.region_extent.proofs.outer.enclosure.Tie as tie

enum-known-region : tie.Need-enum_known-region
enum-known-region c = search rules

enum-known-region-2 : tie.Need-enum_known-region-in-Ellipse-1
enum-known-region-2 c = search rules

enum-known-region-3 : tie.Need-enum_known-region-in-Slice-1
enum-known-region-3 c = search rules

disk-requires : tie.Need-disk-requires
disk-requires c κs = search rules

returns : tie.Need-returns-in-Rectangle
returns c = sym (ap enclosed c.in-Rectangle.is)

returns-2 : tie.Need-returns-in-Ellipse
returns-2 c = sym (ap enclosed c.in-Ellipse.is)

returns-3 : tie.Need-returns-in-Slice
returns-3 c = ap E.Ellipse c.disk.ensures ∙ sym (ap enclosed c.in-Slice.is)

pub enclosure_spec : {M : Type 1} → statement M
enclosure_spec =
    tie.close
    (tie.spec
    enum-known-region
    enum-known-region-2
    enum-known-region-3
    disk-requires
    returns
    returns-2
    returns-3)
