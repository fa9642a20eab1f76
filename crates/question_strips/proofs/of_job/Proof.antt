use mathlib.Core.Path.{subst₂}
use Rattle.region.specs.Around.{accepted-job_parts}
use Rattle.question_strips.specs.Strips.{StripOf, strips_of}
use Rattle.question_strips.proofs.of_job.Statement.{statement}
use Rattle.question_strips.proofs.of_job.Tie as tie

strip-requires : tie.Need-strip-requires
strip-requires c κs = let a = accepted-job_parts c.args.job c.requires.0 in (a.first, a.scale, c.requires.1)

turned-requires : tie.Need-turned-requires
turned-requires c κs = c.requires.1.first

turned-requires-2 : tie.Need-turned-requires-2
turned-requires-2 c κs = c.requires.1.second

strip-requires-2 : tie.Need-strip-requires-2
strip-requires-2 c κs =
    let s = c in
    let a = accepted-job_parts c.args.job c.requires.0 in
    (a.second, a.scale, record { first = c.turned.ensures.1; second = c.turned-2.ensures.1 })

returns : tie.Need-returns
returns c =
    let u = c.turned.ensures.0 in
    let v = c.turned-2.ensures.0 in
    let s = c in
    let j = c.args.job in
    strips_of j c.args.u c.args.v _ _ c.strip.ensures (subst₂ (λ a b. StripOf j.b j.k a b c.strip-2.result) u v c.strip-2.ensures)

pub of_job_spec : {M : Type 1} → statement M
of_job_spec = tie.close (tie.spec strip-requires turned-requires turned-requires-2 strip-requires-2 returns)
