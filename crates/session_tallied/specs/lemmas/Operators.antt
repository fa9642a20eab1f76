-- Two lists of calls that are alike once their operator readings are struck out leave the same counts. SPEC, "Tally".
-- Assumes nothing.
use Rattle.std.specs.Prelude.{◌≡◌, refl, Bool, true, false, cond, List, [], ◌∷◌, ℕ}
use Rattle.std.proofs.Common.{sym, ap, ap₂, ◌∙◌}
use Rattle.std.proofs.lemmas.Bool.{false≢true}
use Rattle.session_model.specs.Session.{Call, reading, handOut, rewind, clear, plain, image_of, shortest, step, is_refused}
use Rattle.session_model.specs.Session as Model
use Rattle.session_model.specs.Operators.{reads_operator, struck, SameButOperator, both-early, both-walking}
use Rattle.session_model.proofs.Operators.{same, step_both, step-operator, step-answer}
use Rattle.session_tally.specs.declared.Tally.{Tally}
use Rattle.session_tally.specs.Spread.{nothing}
use Rattle.session_stages.specs.World.{world}
use Rattle.session_stages.specs.Session.{meaning, scale_of}
use Rattle.session.specs.Run.{Made, calls_of}
use Rattle.session_tallying.specs.declared.Tallied.{Tallied}
use Rattle.session_tallying.specs.Tallied.{fresh, grown}
use Rattle.session_tallied.specs.Run.{TallyRun}
use Rattle.session_tallied.specs.lemmas.Counts.{counts_at, counts_after, from-counts}

-- an operator reading, accepted or refused, leaves the counts
counts_operator : (c : Call world) → reads_operator world c ≡ true → (m : Model.Session world) (t : Tally) → counts_at c m t ≡ t
counts_operator (reading b) h m t = refl
counts_operator (handOut l) h m t = absurd (false≢true h)
counts_operator rewind h m t = absurd (false≢true h)
counts_operator clear h m t = absurd (false≢true h)
counts_operator plain h m t = absurd (false≢true h)
counts_operator (image_of v) h m t = absurd (false≢true h)
counts_operator shortest h m t = absurd (false≢true h)

-- no call's counts depend on the remembered operator
same_scale : {m n : Model.Session world} → SameButOperator world m n → scale_of m ≡ scale_of n
same_scale (both-early p) = refl
same_scale (both-walking j w o o') = refl

counts_both : (c : Call world) {m n : Model.Session world} → SameButOperator world m n → (t : Tally) → counts_at c m t ≡ counts_at c n t
counts_both (reading b) d t = refl
counts_both (handOut l) d t = ap₂ (λ (a : Model.Answer world) (k : ℕ). grown a k t) (step-answer world (handOut l) refl d) (same_scale d)
counts_both rewind d t = ap (λ (a : Model.Answer world). cond (is_refused world a) t nothing) (step-answer world rewind refl d)
counts_both clear d t = refl
counts_both plain d t = refl
counts_both (image_of v) d t = refl
counts_both shortest d t = refl

-- with the operator readings struck out the counts are the same
counts_struck : (cs : List (Call world)) {m n : Model.Session world} (t : Tally) → SameButOperator world m n → counts_after m t cs ≡ counts_after n t (struck world cs)
unfolding counts_after
counts_struck [] t d = refl
counts_struck (c ∷ cs) {m} {n} t d = go (reads_operator world c) refl (λ u x y e. counts_struck cs u e)
  where
    go : (b : Bool) → reads_operator world c ≡ b → ((u : Tally) (x y : Model.Session world) → SameButOperator world x y → counts_after x u cs ≡ counts_after y u (struck world cs))
        → counts_after m t (c ∷ cs) ≡ counts_after n t (struck world (c ∷ cs))
    go true h ih = rw h (ap (λ (u : Tally). counts_after (step world c m).1 u cs) (counts_operator c h m t) ∙ ih t _ _ (step-operator world c h d))
    go false h ih = rw h (ap (λ (u : Tally). counts_after (step world c m).1 u cs) (counts_both c d t) ∙ ih (counts_at c n t) _ _ (step_both world c d))

-- two runs whose calls are alike once their operator readings are struck out leave the same counts
pub run-operators_tally : {ms ns : List Made} {b d : Tallied} → TallyRun ms b → TallyRun ns d → struck world (calls_of ms) ≡ struck world (calls_of ns) → b.tally ≡ d.tally
run-operators_tally {ms} {ns} r q alike =
    let m = meaning fresh.session in
    let t = fresh.tally in
    from-counts r ∙ counts_struck (calls_of ms) t (same world m) ∙ ap (counts_after m t) alike ∙ sym (counts_struck (calls_of ns) t (same world m)) ∙ sym (from-counts q)
