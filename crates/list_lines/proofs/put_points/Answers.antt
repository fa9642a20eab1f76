use Rattle.std.proofs.Common.{◌≡◌, ◌∙◌, ◌+◌, ◌*◌, ◌≤◌, length, take, arith}
use Rattle.list_lines.specs.Lines.{head_text}
use Rattle.list_lines.specs.lemmas.More.{lines_none, lines_next}
use Rattle.list_lines.proofs.put_points.Goals as goal
use Rattle.list_lines.proofs.put_points.Goals.{then-begins_row, else-begins_row}

pub loop-i-init : goal.loop-i-init
loop-i-init c =
    let e = c.put_head-length.ensures in
    (omega arith, lines_none c.args.k c.args.points.now c.args.out.now, e.0.same, e.1, e.0.text)

-- the head is that of the point, kept or spelled anew
pub loop-i-preserved : goal.loop-i-preserved
loop-i-preserved c =
    let i = c.loop-i.invariant in
    let h = c.loop-i-test.true in
    let p = c.requires.0 in
    let there : 4 * c.loop-i.i + 4 ≤ length c.args.points.now = omega arith in
    let b = c.put_point-at.ensures.1 in
    let a = i.0 in
    let spelled : (length c.if-begins_row.head ≡ 36) × (c.if-begins_row.length ≤ 36) × (take c.if-begins_row.length c.if-begins_row.head ≡ head_text c.point_at-v.result) = elim c.if-begins_row.branch [
      | then-begins_row w ↦ rw (w.head-is, w.length-is) (let e = w.put_head-length-then-begins_row.ensures in (e.0.same ∙ i.2, e.1, e.0.text))
      | else-begins_row w ↦ rw (w.head-is, w.length-is) (i.2, i.3, i.4 ∙ c.begins_row.ensures w.if-begins_row.false)
    ] in (
      omega arith,
      lines_next c.args.k c.args.points.now c.loop-i.i c.point_at-v.result c.args.out.now c.loop-i.out c.put_point-at.new.out c.loop-i.at c.put_point-at.result there c.point_at-v.ensures i.1 c.put_point-at.ensures.0,
      spelled.0,
      spelled.1,
      spelled.2,
    )
