use Rattle.std.proofs.Common.{ap}
use Rattle.ranks.specs.Rest.{at}
use Rattle.ranks.proofs.Rank.{rank-zero}
use Rattle.cuts.specs.Digits.{span}
use Rattle.session_stages.proofs.place.before_all.Goals as goal

pub returns : goal.returns
returns c = ap at (rank-zero span)
