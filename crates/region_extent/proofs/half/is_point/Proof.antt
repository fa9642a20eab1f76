use mir.Syntax.{w16, w32}
use mir.Val.{SFits}
use mir.Facts.{to_z-of_z}
use borrow.Author.Rules.{rules}
use Rattle.region.specs.declared.Slice.{Slice}
use Rattle.region_extent.proofs.half.is_point.Statement.{statement}
use Rattle.region_extent.proofs.half.is_point.Tie as tie

touches-requires : tie.Need-touches-requires
touches-requires c κs = search rules

-- the fields
module _ (c : tie.After-touches) where
  abbrev s : Slice
  s = c.args.s

  x_fits : SFits w16 s.zx
  x_fits = search rules

  y-fits : SFits w16 s.zy
  y-fits = search rules

  w_fits : SFits w32 s.w
  w_fits = search rules

returns : tie.Need-returns
returns c = rw (to_z-of_z (x_fits c), to_z-of_z (y-fits c), to_z-of_z (w_fits c)) at c.touches.ensures

pub is_point_spec : {M : Type 1} → statement M
is_point_spec = tie.close (tie.spec touches-requires returns)
