use Rattle.std.proofs.Common.{refl}
use Rattle.session_stages.specs.Session.{course_hands}
use Rattle.session.proofs.hand.from_course.Goals as goal

pub returns-in-Some : goal.returns-in-Some
returns-in-Some c = rw (course_hands c.args.c _ _ c.in-Some.is) c.from_spot.ensures

pub returns-in-None : goal.returns-in-None
returns-in-None c = rw (c.after_end.ensures.0, c.after_end.ensures.1, c.in-None.is) (record { met = refl; values = refl; slice = refl })
