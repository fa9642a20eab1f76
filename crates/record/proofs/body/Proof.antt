use mathlib.Core.Path.{sym, ◌∙◌}
use Rattle.record.specs.Record.{body-scale, body-rectangle, body-ellipse, body-slice, body-operator, body-selection, body-unknown}
use borrow.Author.Rules.{rules}
use Rattle.record.proofs.body.Statement.{statement}
use Rattle.record.proofs.body.Tie as tie

enum_told : tie.Need-enum_told-1
enum_told c = search rules

scale-at-requires : tie.Need-scale_at-requires
scale-at-requires c κs = rw c.in-Scale.is at c.requires

enum-told-2 : tie.Need-enum_told-in-Rectangle
enum-told-2 c = search rules

rectangle-at-requires : tie.Need-rectangle_at-requires
rectangle-at-requires c κs = rw c.in-Rectangle.is at c.requires

checked-region-requires : tie.Need-checked_region-requires
checked-region-requires c κs = search rules

enum-told-3 : tie.Need-enum_told-in-Ellipse
enum-told-3 c = search rules

ellipse-at-requires : tie.Need-ellipse_at-requires
ellipse-at-requires c κs = rw c.in-Ellipse.is at c.requires

checked-region-requires-2 : tie.Need-checked_region-requires-in-Ellipse
checked-region-requires-2 c κs = search rules

enum-told-4 : tie.Need-enum_told-in-Slice
enum-told-4 c = search rules

slice-at-requires : tie.Need-slice_at-requires
slice-at-requires c κs = rw c.in-Slice.is at c.requires

checked-region-requires-3 : tie.Need-checked_region-requires-in-Slice
checked-region-requires-3 c κs = search rules

enum-told-5 : tie.Need-enum_told-in-Operator
enum-told-5 c = search rules

operator-at-requires : tie.Need-operator_at-requires
operator-at-requires c κs = rw c.in-Operator.is at c.requires

checked-operator-requires : tie.Need-checked_operator-requires
checked-operator-requires c κs = search rules

enum-told-6 : tie.Need-enum_told-in-Selection
enum-told-6 c = search rules

selection-at-requires : tie.Need-selection_at-requires
selection-at-requires c κs = rw c.in-Selection.is at c.requires

enum-told-7 : tie.Need-enum_told-in-Unknown
enum-told-7 c = search rules

returns : tie.Need-returns-in-Scale
returns c = c.scale_at.ensures ∙ sym (body-scale _ _ c.in-Scale.is)

returns-2 : tie.Need-returns-in-Rectangle
returns-2 c = c.checked_region.ensures ∙ sym (body-rectangle _ _ c.in-Rectangle.is _ c.rectangle_at.ensures)

returns-3 : tie.Need-returns-in-Ellipse
returns-3 c = c.checked_region-in-Ellipse.ensures ∙ sym (body-ellipse _ _ c.in-Ellipse.is _ c.ellipse_at.ensures)

returns-4 : tie.Need-returns-in-Slice
returns-4 c = c.checked_region-in-Slice.ensures ∙ sym (body-slice _ _ c.in-Slice.is _ c.slice_at.ensures)

returns-5 : tie.Need-returns-in-Operator
returns-5 c = c.checked_operator.ensures ∙ sym (body-operator _ _ c.in-Operator.is _ c.operator_at.ensures)

returns-6 : tie.Need-returns-in-Selection
returns-6 c = c.selection_at.ensures ∙ sym (body-selection _ _ c.in-Selection.is)

returns-7 : tie.Need-returns-in-Unknown
returns-7 c = sym (body-unknown _ _ c.in-Unknown.is)

pub body_spec : {M : Type 1} → statement M
body_spec =
    tie.close
    (tie.spec
    enum_told
    scale-at-requires
    enum-told-2
    rectangle-at-requires
    checked-region-requires
    enum-told-3
    ellipse-at-requires
    checked-region-requires-2
    enum-told-4
    slice-at-requires
    checked-region-requires-3
    enum-told-5
    operator-at-requires
    checked-operator-requires
    enum-told-6
    selection-at-requires
    enum-told-7
    returns
    returns-2
    returns-3
    returns-4
    returns-5
    returns-6
    returns-7)
