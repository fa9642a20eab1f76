use Rattle.std.proofs.Common.{refl, ◌∙◌}
use Rattle.library_numbers.specs.Numbers.{shape_2, shape_3, shape_5}
use Rattle.library_numbers.proofs.forth.shape_of.Goals as goal

pub returns-in-Rectangle : goal.returns-in-Rectangle
returns-in-Rectangle c = let e = c.of_rectangle.ensures in shape_2 _ e.0 e.1 ∙ rw c.in-Rectangle.is refl

pub returns-in-Ellipse : goal.returns-in-Ellipse
returns-in-Ellipse c = let e = c.of_ellipse.ensures in shape_3 _ e.0 e.1 ∙ rw c.in-Ellipse.is refl

pub returns-in-Slice : goal.returns-in-Slice
returns-in-Slice c = let e = c.of_slice.ensures in shape_5 _ e.0 e.1 ∙ rw c.in-Slice.is refl
