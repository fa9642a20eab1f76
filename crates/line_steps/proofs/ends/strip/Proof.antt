use mir.Syntax.{w32, w64}
use mir.Val.{SFits}
use mir.Facts.{sfits_widen, to_z-of_z}
use borrow.Author.Rules.{rules}
use Rattle.line_steps.proofs.ends.strip.Statement.{statement}
use Rattle.line_steps.proofs.ends.strip.Tie as tie

record Fits (c : tie.Start) : Type 0 where
  pub n : SFits w32 c.args.i.n
  pub lo : SFits w32 c.args.i.lo
  pub hi : SFits w32 c.args.i.hi

fits : (c : tie.Start) → Fits c
fits c = record { n = search rules; lo = search rules; hi = search rules }

cast-t2 : tie.Need-overflow_cast-result
cast-t2 c = let f = fits c.before.before in rw (to_z-of_z f.n) (sfits_widen tt f.n)

cast-t3 : tie.Need-overflow_cast-result-2
cast-t3 c = let f = fits c.before.before.before.before in rw (to_z-of_z f.lo) (sfits_widen tt f.lo)

cast-t5 : tie.Need-overflow_cast-result-3
cast-t5 c = let f = fits c.before.before.before.before.before.before in rw (to_z-of_z f.hi) (sfits_widen tt f.hi)

returns : tie.Need-returns
returns c =
    let f = fits c.before.before.before.before.before.before in
    simp (to_z-of_z f.n, to_z-of_z f.lo, to_z-of_z f.hi, to_z-of_z {w = w64} (sfits_widen tt f.n), to_z-of_z {w = w64} (sfits_widen tt f.lo), to_z-of_z {w = w64} (sfits_widen tt f.hi))

pub strip_spec : {M : Type 1} → statement M
strip_spec = tie.close (tie.spec cast-t2 cast-t3 cast-t5 returns)
