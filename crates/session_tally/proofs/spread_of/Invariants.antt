-- Of the first i points, those that √2 divides are counted. Assumes nothing.
use Rattle.std.proofs.Common.{◌≡◌, ◌-◌, ◌≤◌}
use Rattle.session_tally.specs.lemmas.Places.{plus_at}
use Rattle.session_tally.specs.lemmas.Read.{first_spread}
use Rattle.session_tally.proofs.spread_of.Given as goal

abbrev pub invariant-loop-i : goal.invariant-loop-i
invariant-loop-i l = record { few : l.even ≤ l.i; counted : plus_at l.counts l.k (l.i - l.even) ≡ first_spread l.k l.points l.i }
