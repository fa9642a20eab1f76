-- The job that a session stands in.
-- Assumes nothing.
use Rattle.session_model.specs.Session.{World, Stage, part, whole}
use Rattle.session_model.specs.Session.{Session, early, walking}

module _ (W : World) where
  open W use {Parts, Job}

  abbrev pub job_of : Session W → Stage Parts Job
  job_of (early p) = part p
  job_of (walking j w o) = whole j
