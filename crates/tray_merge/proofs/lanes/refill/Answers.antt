-- `refill` meets its contract. Assumes nothing.
use Rattle.std.proofs.Common.{◌≡◌, ℕ, length, sym, subst, ◌∙◌, arith, rules}
use Rattle.region.specs.declared.Job.{Job}
use Rattle.walk_list.specs.Walk.{spot_of}
use Rattle.tray_merge.specs.Lanes.{source_at, Filling, filling_none, filling_kept, filling_more, filling_all}
use Rattle.tray_merge.proofs.lanes.refill.Goals as goal
use Rattle.tray_merge.proofs.lanes.refill.Goals.{then-is_due, else-is_due}

pub loop-j-init : goal.loop-j-init
loop-j-init c =
    let p = c.requires in
    let m : length c.args.marks ≡ 8 = search rules in
    filling_none _ c.args.size c.args.queue.now c.args.at.now c.args.end.now _ (spot_of c.args.front) (sym p.2) (p.5, p.6, m) p.3

pub fill-h-requires : goal.fill-h-requires
fill-h-requires c =
    let p = c.requires in
    let h = c.loop-j-test.true in
    let m = c.min.ensures in
    let e = c.grown.ensures in
    (p.4 c.loop-j.j h, omega arith, omega arith, omega arith, sym c.loop-j.invariant.room)

pub loop-j-preserved : goal.loop-j-preserved
loop-j-preserved c =
    let p = c.requires in
    let h = c.loop-j-test.true in
    let J : ℕ → Job = λ i. (source_at c.args.sources i).job in
    elim c.if-is_due.branch [
      | then-is_due w ↦
          let q = w.fill-h.new.queue in
          let same : length q ≡ length c.loop-j.queue = search rules in
          let e = w.fill-h.ensures in
          rw (w.queue-is, w.at-is, w.end-is, w.after-is)
          (filling_more J c.args.size c.args.queue.now c.args.at.now c.args.end.now c.args.marks (spot_of c.args.front) c.loop-j.j c.loop-j.queue c.loop-j.at c.loop-j.end c.loop-j.after c.loop-j.invariant h (omega arith) (c.is_due.ensures.0 w.if-is_due.true) q w.fill-h.result.count w.fill-h.result.spot
          e.3 (same ∙ c.loop-j.invariant.room) e.0 e.1 e.2)
      | else-is_due w ↦
          rw (w.queue-is, w.at-is, w.end-is, w.after-is)
          (filling_kept J c.args.size c.args.queue.now c.args.at.now c.args.end.now c.args.marks (spot_of c.args.front) c.loop-j.j c.loop-j.queue c.loop-j.at c.loop-j.end c.loop-j.after c.loop-j.invariant (c.is_due.ensures.1 w.if-is_due.false))
    ]

pub returns : goal.returns
returns c =
    let e : c.loop-j.j ≡ c.args.size = omega arith in
    filling_all _ _ _ _ _ _ _ _ _ _ _ (subst (λ (n : ℕ). Filling (λ i. (source_at c.args.sources i).job) c.args.size c.args.queue.now c.args.at.now c.args.end.now c.args.marks (spot_of c.args.front) n c.loop-j.queue c.loop-j.at c.loop-j.end c.loop-j.after) e c.loop-j.invariant)
