use lib.ListN.{get_or}
use Rattle.pattern_sheet.specs.Sheet.{sheet_at}
use borrow.Author.Rules.{rules}
use Rattle.pattern_sheet.proofs.sheet_at.Statement.{statement}
use Rattle.pattern_sheet.proofs.sheet_at.Tie as tie

point-at-requires : tie.Need-point_at-u-requires
point-at-requires c κs = search rules

point-at-requires-2 : tie.Need-point_at-t-requires
point-at-requires-2 c κs = search rules

shared-slice-read-t5 : tie.Need-bounds-s-1
shared-slice-read-t5 c = search rules

u32-at-requires : tie.Need-u32_at-requires
u32-at-requires c κs = search rules

returns : tie.Need-returns
unfolding sheet_at
returns c = λ i. record {
  k = get_or c.args.s.now 1 0;
  u = c.point_at-u.ensures i;
  t = c.point_at-t.ensures i;
  ticks = c.u32_at.ensures i;
}

pub sheet_at_spec : {M : Type 1} → statement M
sheet_at_spec =
    tie.close
    (tie.spec point-at-requires point-at-requires-2 shared-slice-read-t5 u32-at-requires returns)
