-- `nearest` meets its contract. Assumes nothing.
use Rattle.std.proofs.Common.{◌≡◌, ℕ, sym, ap, ap₂, ◌∙◌, add-one, arith}
use Rattle.tray_list.specs.Nearer.{nearer}
use Rattle.tray_merge.specs.Past.{nearest_of, nearest_none, nearest_more}
use Rattle.tray_merge.specs.Lanes.{front_at}
use Rattle.tray_merge.proofs.lanes.nearest.Goals as goal

pub loop-j-init : goal.loop-j-init
loop-j-init c = nearest_none (front_at c.args.queue.now c.args.at.now c.args.end.now)

pub front-f-requires : goal.front-f-requires
front-f-requires c = let p = c.requires in let h = c.loop-j-test.true in (omega arith, (p.2 c.loop-j.j h).1, p.1)

pub loop-j-preserved : goal.loop-j-preserved
loop-j-preserved c =
    let j = c.loop-j.j in
    let f = front_at c.args.queue.now c.args.at.now c.args.end.now in
    c.nearer-spot.ensures ∙ ap₂ nearer c.loop-j.invariant c.front-f.ensures ∙ nearest_more j f ∙ ap (λ (n : ℕ). nearest_of n f) (sym (add-one j))

pub returns : goal.returns
returns c =
    let e : c.loop-j.j ≡ c.args.size = omega arith in
    c.loop-j.invariant ∙ ap (λ (n : ℕ). nearest_of n (front_at c.args.queue.now c.args.at.now c.args.end.now)) e
