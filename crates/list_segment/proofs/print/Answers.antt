use Rattle.std.proofs.Common.{sym, ap, ◌∙◌, to_z-of_z}
use Rattle.list_segment.specs.Joined.{lines_nil}
use Rattle.list_segment.specs.Segment.{rank_lines, segment_part, remains_after, paged_lines, paged_less}
use Rattle.list_segment.specs.Printed.{going_begun, go_on, stop, going_done}
use Rattle.list_segment.proofs.print.Goals as goal

pub loop-more-init : goal.loop-more-init
loop-more-init g c =
    let e = segment_part c.args.job c.args.lo c.args.hi c.ranges.hi in
    (sym c.output_buffer-space.ensures, going_begun _ _ (rw (to_z-of_z c.ranges.hi, c.first-from.ensures, to_z-of_z c.ranges.lo) (ap (rank_lines c.args.job.k) e)))

pub returns-then-not-print : goal.returns-then-not-print
returns-then-not-print g c =
    let p = c.page-p.ensures in
    let k = rw c.loop-more-test.true at c.loop-more.invariant.1 in
    rw (to_z-of_z c.ranges.hi, to_z-of_z c.ranges.lo) at (stop (rank_lines c.args.job.k (remains_after p)) k (paged_lines p) c.print.ensures c.if-not-print.true)

pub loop-more-smaller : goal.loop-more-smaller
loop-more-smaller g c = rw c.loop-more-test.true (paged_less c.page-p.ensures)

pub loop-more-preserved : goal.loop-more-preserved
loop-more-preserved g c =
    let p = c.page-p.ensures in
    let k = rw c.loop-more-test.true at c.loop-more.invariant.1 in
    (p.text.same ∙ c.loop-more.invariant.0, go_on (rank_lines c.args.job.k (remains_after p)) k (paged_lines p) c.print.ensures c.if-not-print.false)

pub returns : goal.returns
returns g c =
    let k = rw c.loop-more-test.false at c.loop-more.invariant.1 in
    rw (to_z-of_z c.ranges.hi, to_z-of_z c.ranges.lo) at (going_done k (lines_nil c.args.job.k))
