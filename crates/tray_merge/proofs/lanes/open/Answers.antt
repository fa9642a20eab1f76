-- `open` meets its contract. Assumes nothing.
use Rattle.std.proofs.Common.{length-set, refl, subst, ◌∙◌, arith}
use Rattle.std.proofs.Math.Nat.{min-le_right}
use Rattle.region.specs.declared.Job.{Job}
use Rattle.tray_list.specs.Tray.{job_at}
use Rattle.tray_merge.specs.Lanes.{no_source, Made, stored}
use Rattle.tray_merge.proofs.lanes.open.Goals as goal

pub loop-j-init : goal.loop-j-init
loop-j-init c = record { long = refl; made = λ i b. absurd (omega arith) }

pub job-job-requires : goal.job-job-requires
job-job-requires c = let z = c.size-size.ensures in omega (arith, min-le_right c.args.t.count 8)

pub loop-j-preserved : goal.loop-j-preserved
loop-j-preserved c =
    let t = c.args.t in
    let i = c.loop-j.invariant in
    let z = c.size-size.ensures in
    let m = min-le_right t.count 8 in
    let x = c.made.result in
    record {
      long = length-set _ _ _ ∙ i.long;
      made = stored (λ k s. Made (job_at t k) s) c.loop-j.sources c.loop-j.j x no_source (omega arith) (subst (λ (j : Job). Made j x) c.job-job.ensures c.made.ensures) i.made;
    }

pub returns : goal.returns
returns c = let z = c.size-size.ensures in λ i b. c.loop-j.invariant.made i (omega arith)
