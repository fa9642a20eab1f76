-- Refused calls do not touch the counts: with them struck out, the others leave the same counts. SPEC, "Tally".
-- Assumes nothing.
use Rattle.std.specs.Prelude.{◌≡◌, refl, Bool, true, false, List, [], ◌∷◌}
use Rattle.std.proofs.Common.{sym, ap, ◌∙◌}
use Rattle.std.proofs.lemmas.Bool.{false≢true}
use Rattle.session_model.specs.Session.{Call, reading, handOut, rewind, clear, plain, image_of, shortest, refused, taken, handed, done, says, best, step, is_refused}
use Rattle.session_model.specs.Session as Model
use Rattle.session_model.specs.lemmas.Refused.{unrefused}
use Rattle.session_model.proofs.lemmas.Refused.{refused_same}
use Rattle.session_tally.specs.declared.Tally.{Tally}
use Rattle.session_stages.specs.World.{world}
use Rattle.session_stages.specs.Session.{meaning, scale_of}
use Rattle.session.specs.Run.{Made, calls_of, answered, link_answer}
use Rattle.session.specs.RunCalls.{kept, kept-calls}
use Rattle.session_tallying.specs.declared.Tallied.{Tallied}
use Rattle.session_tallying.specs.Tallied.{fresh, grown}
use Rattle.session_tallied.specs.Run.{TallyLink, TallyRun, session-link, session-run}
use Rattle.session_tallied.specs.lemmas.Counts.{counts_at, counts_after, link_counts, from-counts}

-- ---- a refused call
grown-refused : (a : Model.Answer world) (m : Model.Session world) (t : Tally) → is_refused world a ≡ true → grown a (scale_of m) t ≡ t
grown-refused (refused r) m t h = refl
grown-refused (taken n) m t h = refl
grown-refused (handed n e l) m t h = absurd (false≢true h)
grown-refused done m t h = refl
grown-refused (says b) m t h = refl
grown-refused (best b) m t h = refl

counts_refused : (c : Call world) (m : Model.Session world) (t : Tally) → is_refused world (step world c m).0 ≡ true → counts_at c m t ≡ t
counts_refused (reading b) m t h = refl
counts_refused (handOut l) m t h = grown-refused (step world (handOut l) m).0 m t h
counts_refused rewind m t h = rw h refl
counts_refused clear m t h = absurd (false≢true h)
counts_refused plain m t h = refl
counts_refused (image_of v) m t h = refl
counts_refused shortest m t h = refl

-- it leaves the counts as they were
pub link_untouched : {b d : Tallied} {m : Made} → TallyLink b m d → is_refused world (answered m) ≡ true → d.tally ≡ b.tally
link_untouched {b} {m} k h = link_counts k ∙ counts_refused m.call (meaning b.session) b.tally (ap (is_refused world) (sym (link_answer (session-link k))) ∙ h)

-- ---- struck out
counts_unrefused : (cs : List (Call world)) (m : Model.Session world) (t : Tally) → counts_after m t (unrefused world m cs) ≡ counts_after m t cs
unfolding counts_after
counts_unrefused [] m t = refl
counts_unrefused (c ∷ cs) m t = go (is_refused world (step world c m).0) refl (counts_unrefused cs (step world c m).1)
  where
    go : (b : Bool) → is_refused world (step world c m).0 ≡ b → ((u : Tally) → counts_after (step world c m).1 u (unrefused world (step world c m).1 cs) ≡ counts_after (step world c m).1 u cs)
        → counts_after m t (unrefused world m (c ∷ cs)) ≡ counts_after m t (c ∷ cs)
    go true h ih =
        rw h
        (ap (λ (z : Model.Session world). counts_after z t (unrefused world (step world c m).1 cs)) (sym (refused_same world c m h)) ∙ ih t
        ∙ ap (λ (u : Tally). counts_after (step world c m).1 u cs) (sym (counts_refused c m t h)))
    go false h ih = rw h (ih (counts_at c m t))

-- a run, and a run of those of its calls that were not refused, leave the same counts
module _ {ms ns : List Made} {b d : Tallied} (r : TallyRun ms b) (q : TallyRun ns d) (same : calls_of ns ≡ calls_of (kept ms)) where
  pub run-refused_tally : d.tally ≡ b.tally
  run-refused_tally =
      from-counts q ∙ ap (counts_after (meaning fresh.session) fresh.tally) (same ∙ kept-calls (session-run r)) ∙ counts_unrefused (calls_of ms) (meaning fresh.session) fresh.tally
      ∙ sym (from-counts r)
