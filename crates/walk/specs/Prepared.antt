-- Jobs made ready for hand-outs.
use Rattle.std.specs.Prelude.{◌≡◌, false, Result, Ok, Err}
use Rattle.cuts.specs.declared.Bounds.{Bounds}
use Rattle.region.specs.declared.Job.{Job}
use Rattle.region.specs.Region.{accepted_job}
use Rattle.cuts.specs.Bounds.{Ready}

-- the job that was made ready
abbrev pub job_of : Result Bounds Job → Job
job_of (Ok n) = n.job
job_of (Err j) = j

-- it has its bounds, or is not accepted
abbrev pub Prepares : Result Bounds Job → Type 0
Prepares (Ok n) = Ready n
Prepares (Err j) = accepted_job j ≡ false
