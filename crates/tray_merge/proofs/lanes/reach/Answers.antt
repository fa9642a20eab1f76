-- `reach` meets its contract. Assumes nothing.
use Rattle.std.proofs.Common.{◌≡◌, ℕ, length, sym, ap, ap₂, ◌∙◌, add-one, arith, rules}
use Rattle.std.proofs.lemmas.List.{get_or-take, length-take-le}
use Rattle.walk_list.specs.Walk.{spot_of}
use Rattle.tray_list.specs.Nearer.{nearer}
use Rattle.tray_merge.specs.Past.{nearest_of, nearest_none, nearest_more}
use Rattle.tray_merge.specs.declared.lanes.Mark.{Mark}
use Rattle.tray_merge.specs.Lanes.{mark_at, no_mark}
use Rattle.tray_merge.proofs.lanes.reach.Goals as goal

pub loop-m-init : goal.loop-m-init
loop-m-init c = nearest_none (mark_at c.args.marks)

pub loop-m-preserved : goal.loop-m-preserved
loop-m-preserved c =
    let l : length c.args.marks ≡ 8 = search rules in
    let p = c.requires in
    let h = c.loop-m-test.true in
    let i = c.loop-m.m-index in
    let f = mark_at c.args.marks in
    c.nearer-spot.ensures ∙ ap₂ nearer c.loop-m.invariant (ap (λ (m : Mark). spot_of m.spot) (get_or-take c.args.size c.args.marks i no_mark (omega (arith, length-take-le c.args.size c.args.marks (omega arith))))) ∙ nearest_more i f ∙ ap (λ (n : ℕ). nearest_of n f) (sym (add-one i))

pub returns : goal.returns
returns c =
    let l : length c.args.marks ≡ 8 = search rules in
    let p = c.requires in
    let e : c.loop-m.m-index ≡ c.args.size = omega (arith, length-take-le c.args.size c.args.marks (omega arith)) in
    c.loop-m.invariant ∙ ap (λ (n : ℕ). nearest_of n (mark_at c.args.marks)) e
