-- The shortest pattern: SPEC, "Shortest pattern".
use Rattle.std.specs.Prelude.{◌≡◌, false, ℕ, zero, suc}
use Rattle.std.proofs.Common.{ap}
use Rattle.refusals.specs.Refusals.{no_pattern}
use Rattle.region.specs.declared.Job.{Job}
use Rattle.pattern_pairing.specs.declared.Found.{Found}
use Rattle.pattern_pairing.specs.declared.Found.TheVariants as F
use Rattle.pattern_shortest.specs.declared.Pattern.{Pattern}
use Rattle.pattern_shortest.specs.declared.Pattern.TheVariants as P
-- the first u of a job that has a t, and its first t
pub use Rattle.pattern_pairing.specs.First.{has_entry, pair_of, first_of}
unfoldable pub use Rattle.pattern_pairing.specs.First.{qualifies, found_at}

-- the job at another scale, "over new points"
abbrev pub at : Job → ℕ → Job
at j i = record { k = i; all = false; a = j.a; b = j.b }

-- "its scale"; or what comes after it
abbrev pub or_else : ℕ → Pattern → Found → Pattern
or_else i p (F.At u t) = P.Found i u t
or_else i p F.Missing = p

-- n scales in turn, from i on
unfoldable pub from_scale : Job → ℕ → ℕ → Pattern
from_scale j zero i = P.Missing
from_scale j (suc n) i = or_else i (from_scale j n (suc i)) (found_at (at j i))

-- "Taking a job's k as the top, try scales 0 to k in turn"
unfoldable pub pattern_of : Job → Pattern
pattern_of j = from_scale j (suc j.k) 0

-- the number of each case (SPEC, "Refusals"): 0 for a pattern, 14 where there is none
abbrev pub number : Pattern → ℕ
number (P.Found k u t) = 0
number P.Missing = no_pattern

-- an answer: the case, and its number
pub record Tells (j : Job) (r : Pattern) : Type 0 where
  pub pattern : r ≡ pattern_of j
  pub value : number r ≡ number (pattern_of j)

pub tells : {j : Job} {r : Pattern} → r ≡ pattern_of j → Tells j r
tells e = record { pattern = e; value = ap number e }
