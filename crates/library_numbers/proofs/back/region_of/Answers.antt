use Rattle.std.proofs.Common.{sym}
use Rattle.library_numbers.specs.Numbers.{shape_2, shape_3, shape_other}
use Rattle.library_numbers.proofs.back.region_of.Goals as goal

pub returns-in-2 : goal.returns-in-2
returns-in-2 c = sym (shape_2 _ c.in-2.is (sym c.rectangle_of.ensures))

pub returns-in-3 : goal.returns-in-3
returns-in-3 c = sym (shape_3 _ c.in-3.is (sym c.ellipse_of.ensures))

pub returns-in_default : goal.returns-in_default
returns-in_default c = let r = c.in_default.in_default-own.rest in sym (shape_other _ r.0.1 r.1 (sym c.slice_of.ensures))
