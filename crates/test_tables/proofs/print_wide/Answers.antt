use Rattle.std.proofs.Common.{sym, length-take-le}
use Rattle.text.specs.Append.{put-within}
use Rattle.test_tables.proofs.print_wide.Goals as goal

pub slice_bounds-line-end : goal.slice_bounds-line-end
slice_bounds-line-end g c = put-within _ _ _ _ c.put_wide-n.ensures

pub slice_bounds-print-end : goal.slice_bounds-print-end
slice_bounds-print-end g c = sym (length-take-le _ _ (put-within _ _ _ _ c.put_wide-n.ensures))
