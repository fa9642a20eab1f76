-- The counts after a list of calls, from the calls' arguments alone. SPEC, "Tally".
-- Assumes nothing.
use Rattle.std.specs.Prelude.{◌≡◌, refl, List, [], ◌∷◌}
use Rattle.std.proofs.Common.{ap, ◌∙◌}
use Rattle.session_model.specs.Session.{Call, step}
use Rattle.session_model.specs.Session as Model
use Rattle.session_tally.specs.declared.Tally.{Tally}
use Rattle.session_stages.specs.World.{world}
use Rattle.session_stages.specs.Session.{meaning, scale_of}
use Rattle.session.specs.Run.{Made, calls_of, link_answer, link_session}
use Rattle.session_tallying.specs.declared.Tallied.{Tallied}
use Rattle.session_tallying.specs.Tallied.{tally_after}
use Rattle.session_tallied.specs.Run.{TallyLink, TallyFrom, none, then, session-link, link_tally}

abbrev pub counts_at : Call world → Model.Session world → Tally → Tally
counts_at c m t = tally_after c (step world c m).0 (scale_of m) t

unfoldable pub counts_after : Model.Session world → Tally → List (Call world) → Tally
counts_after m t [] = t
counts_after m t (c ∷ cs) = counts_after (step world c m).1 (counts_at c m t) cs

pub link_counts : {b d : Tallied} {m : Made} → TallyLink b m d → d.tally ≡ counts_at m.call (meaning b.session) b.tally
link_counts {b} {m} k = link_tally k ∙ ap (λ (a : Model.Answer world). tally_after m.call a (scale_of (meaning b.session)) b.tally) (link_answer (session-link k))

pub from-counts : {b d : Tallied} {ms : List Made} → TallyFrom b ms d → d.tally ≡ counts_after (meaning b.session) b.tally (calls_of ms)
unfolding counts_after
from-counts none = refl
from-counts (then {ms} k r) = from-counts r ∙ rw (link_session (session-link k), link_counts k) refl
