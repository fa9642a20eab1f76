-- The test of a job, in the form in which the code decides it.
use Rattle.std.specs.Prelude.{◌≡◌, Bool, ◌&&◌, leb}
use Rattle.record_ranges.specs.lemmas.Forms.{both-assoc}
use Rattle.region.specs.declared.Job.{Job}
use Rattle.region.specs.Region.{accepted, accepted_job, top_scale}

pub accepted-job : (j : Job) {s a b : Bool} → s ≡ leb j.k top_scale → a ≡ accepted j.a → b ≡ accepted j.b → s && a && b ≡ accepted_job j
unfolding accepted_job
accepted-job j {s} {a} {b} p q r = rw (← p, ← q, ← r) (both-assoc s a b)
