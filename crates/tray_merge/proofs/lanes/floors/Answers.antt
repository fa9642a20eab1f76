-- `floors` meets its contract. Assumes nothing.
use Rattle.std.proofs.Common.{◌≡◌, length-set, refl, subst, ◌∙◌, arith}
use Rattle.std.proofs.Math.Nat.{min-le_right}
use Rattle.region.specs.declared.Job.{Job}
use Rattle.ranks.specs.Rest.{at}
use Rattle.walk_list.specs.Walk.{rank_of, spot_of}
use Rattle.tray_list.specs.Tray.{job_at}
use Rattle.tray_merge.specs.Lane.{left_of}
use Rattle.tray_merge.specs.Lanes.{no_mark, stored}
use Rattle.tray_merge.proofs.lanes.floors.Goals as goal

pub loop-j-init : goal.loop-j-init
loop-j-init c = record { long = refl; held = λ i b. absurd (omega arith) }

pub job-requires : goal.job-requires
job-requires c = let z = c.size-size.ensures in omega (arith, min-le_right c.args.t.count 8)

pub loop-j-preserved : goal.loop-j-preserved
loop-j-preserved c =
    let t = c.args.t in
    let v = c.args.from in
    let i = c.loop-j.invariant in
    let z = c.size-size.ensures in
    let m = min-le_right t.count 8 in
    record {
      long = length-set _ _ _ ∙ i.long;
      held = stored (λ k s. left_of (job_at t k) (spot_of s.spot) ≡ left_of (job_at t k) (at (rank_of v))) c.loop-j.marks c.loop-j.j _ no_mark (omega arith)
          (subst (λ (j : Job). left_of j (spot_of c.floor-spot.result) ≡ left_of j (at (rank_of v))) c.job.ensures c.floor-spot.ensures) i.held;
    }

pub returns : goal.returns
returns c = let z = c.size-size.ensures in λ i b. c.loop-j.invariant.held i (omega arith)
