-- `hand_out` meets its contract. Assumes nothing.
use Rattle.std.proofs.Common.{ap, ◌∙◌, rules}
use Rattle.session_model.specs.Session as Model
use Rattle.session_stages.specs.World.{world}
use Rattle.session_tallied.proofs.hand_out.Goals as goal

pub grown-t-requires : goal.grown-t-requires
grown-t-requires c =
    let h = c.hand_out-o in
    record { old = c.args.out.now; same = search rules; met = ap (λ (o : Model.Outcome world). o.0) h.ensures.hands.met }

pub returns : goal.returns
returns c = let k = c.kept.ensures in record { met = rw (k.0, k.2) c.hand_out-o.ensures.hands; tally = rw k.2 (k.1 ∙ c.grown-t.ensures) }
