-- `job` of what `show` prints for a job is the job's bytes. Assumes nothing.
use Rattle.std.specs.Prelude.{◌≡◌, refl, Bool, List, [], ◌∷◌, ℕ, zero, suc, ◌+◌, ◌≤◌, length, drop}
use Rattle.std.proofs.Common.{sym, ap, ◌∙◌, arith, length-drop}
use Rattle.std.proofs.Math.Decide.{dec_le}
use Rattle.record_kinds.specs.declared.Turn.{Turn}
use Rattle.record_kinds.specs.declared.Turn.TheVariants as T
use Rattle.record_kinds.specs.Kinds.{kind_of, body_length}
use Rattle.record.specs.declared.Reading as D
use Rattle.record.specs.declared.Reading.TheVariants as RV
use Rattle.record.specs.declared.Record.{Record}
use Rattle.record.specs.declared.Record.TheVariants as R
use Rattle.record.specs.Record.{reading_of}
use Rattle.region.specs.declared.Region.{Region}
use Rattle.region.specs.declared.Job.{Job}
use Rattle.operator.specs.declared.Operator.{Operator}
use Rattle.ranks.specs.Rest.{Place}
use Rattle.session_model.specs.Session.{reading, refused, taken, handed, done, says, best, early, walking, step, joined, remembered}
use Rattle.session_model.specs.Session as Model
use Rattle.session_stages.specs.declared.Parts.{Parts}
use Rattle.session_stages.specs.declared.Parts.TheVariants.{Nothing, Scaled, Selected, First}
use Rattle.session_stages.specs.Session.{meaning, fresh}
use Rattle.session_stages.specs.World.{world, turn_at, place_scale, place_selection, place_region, part_reading, operator_reading}
use Rattle.record_forms.specs.Back.{Bytes}
use Rattle.record_text.specs.Lines.{text_of}
use Rattle.record_text.specs.Texts.{joined-texts}
use Rattle.record_text.specs.Records.{records_in, whole_long, whole-known}
use Rattle.record_text.specs.lemmas.Sizes.{bytes_drop, records-size}
use Rattle.job_record_lines.specs.Text.{Proper, records_of, text-back}
use Rattle.job_words.specs.Rows.{job_of}
use Rattle.record_readback.specs.Again.{record_again}
use Rattle.record_readback.specs.Whole.{accepted-whole}
use Rattle.list_input.specs.Load.{ready, tooLong, onward, records, most, load_of}
use Rattle.list_input.specs.lemmas.Reading.{load-long, load-records}
use Rattle.show.specs.Show.{show_of}

-- ---- a reading is refused, or takes a record that is accepted
unfoldable Took : List ℕ → Model.Outcome world → Type 0
Took b (refused r, t) = Unit {0}
Took b (taken n, t) = (turn : Turn) × (x : Record) × (reading_of b turn ≡ RV.Accepted x n)
Took b (handed n e l, t) = ⊥
Took b (done, t) = ⊥
Took b (says c, t) = ⊥
Took b (best c, t) = ⊥

module _ (b : List ℕ) where
  scale-took : (p : Parts) (h k : ℕ) (x : Record) → reading_of b (turn_at p) ≡ RV.Accepted x k → Took b (joined world p (place_scale p h k))
  unfolding Took
  scale-took Nothing h k x e = (T.Scale, x, e)
  scale-took (Scaled i) h k x e = tt
  scale-took (Selected i all) h k x e = tt
  scale-took (First i all a) h k x e = tt

  selection-took : (p : Parts) (c : Bool) (k : ℕ) (x : Record) → reading_of b (turn_at p) ≡ RV.Accepted x k → Took b (joined world p (place_selection p c k))
  unfolding Took
  selection-took Nothing c k x e = tt
  selection-took (Scaled i) c k x e = (T.Selection, x, e)
  selection-took (Selected i all) c k x e = tt
  selection-took (First i all a) c k x e = tt

  region-took : (p : Parts) (c : Region) (k : ℕ) (x : Record) → reading_of b (turn_at p) ≡ RV.Accepted x k → Took b (joined world p (place_region p c k))
  unfolding Took
  region-took Nothing c k x e = tt
  region-took (Scaled i) c k x e = (T.Selection, x, e)
  region-took (Selected i all) c k x e = (T.First, x, e)
  region-took (First i all a) c k x e = (T.Second, x, e)

  part-took : (p : Parts) (r : D.Reading) → reading_of b (turn_at p) ≡ r → Took b (joined world p (part_reading p r))
  unfolding Took
  part-took p (RV.Accepted (R.Scale h) k) e = scale-took p h k (R.Scale h) e
  part-took p (RV.Accepted (R.Selection c) k) e = selection-took p c k (R.Selection c) e
  part-took p (RV.Accepted (R.Region c) k) e = region-took p c k (R.Region c) e
  part-took p (RV.Accepted (R.Operator g) k) e = tt
  part-took p (RV.Refused f) e = tt

  operator-took : (j : Job) (w : Place) (o : Operator) (r : D.Reading) → reading_of b T.Operators ≡ r → Took b (remembered world j w o (operator_reading r))
  unfolding Took
  operator-took j w o (RV.Accepted (R.Scale h) k) e = tt
  operator-took j w o (RV.Accepted (R.Selection c) k) e = tt
  operator-took j w o (RV.Accepted (R.Region c) k) e = tt
  operator-took j w o (RV.Accepted (R.Operator g) k) e = (T.Operators, R.Operator g, e)
  operator-took j w o (RV.Refused f) e = tt

  step-took : (m : Model.Session world) → Took b (step world (reading b) m)
  step-took (early p) = part-took p (reading_of b (turn_at p)) refl
  step-took (walking j w o) = operator-took j w o (reading_of b T.Operators) refl

-- ---- the records of a job
unfoldable Whole : ℕ → List ℕ → Type 0
Whole n s = Proper (records_in n s) × (records_of (records_in n s) ≡ s)

-- one record more
more : (n b : ℕ) (s : List ℕ) (t : Turn) (x : Record) (k : ℕ) → Bytes s → reading_of (b ∷ s) t ≡ RV.Accepted x k → Whole n (drop (body_length (kind_of b)) s) → Whole (suc n) (b ∷ s)
unfolding Whole records_in Proper records_of
more n b s t x k bytes e rest =
    let (w, m, c) = accepted-whole b s t x k e in
    let a = record_again b s bytes (whole-known (kind_of b) (length s) w) (whole_long (kind_of b) (length s) w) in
    rw w (((c, a.0), rest.0), rw rest.1 a.1)

load-whole : (n : ℕ) (m z : Model.Session world) (at : ℕ) (s : List ℕ) → Bytes s → length s ≤ n → records n m at s ≡ ready z → Whole n s
unfolding records Whole records_in Proper records_of Took
load-whole zero m z at [] bytes h e = (tt, refl)
load-whole zero m z at (b ∷ s) bytes h e = absurd (omega arith)
load-whole (suc n) m z at [] bytes h e = (tt, refl)
load-whole (suc n) m z at (b ∷ s) bytes h e = go (step world (reading (b ∷ s)) m) (step-took (b ∷ s) m) e (λ u v q. load-whole n u z v (drop (body_length (kind_of b)) s) (bytes_drop (body_length (kind_of b)) s (λ j. bytes (suc j))) (let d = length-drop (body_length (kind_of b)) s in omega arith) q)
  where
    go : (o : Model.Outcome world) → Took (b ∷ s) o → onward (λ k t. records n t (at + k) (drop k (b ∷ s))) m at o ≡ ready z
        → ((u : Model.Session world) (v : ℕ) → records n u v (drop (body_length (kind_of b)) s) ≡ ready z → Whole n (drop (body_length (kind_of b)) s)) → Whole (suc n) (b ∷ s)
    go (refused r, t) w e rest = absurd (let y : ◌≡◌ {A = ℕ} 0 1 = cc in omega arith)
    go (taken k, t) w e rest =
        let f = (accepted-whole b s w.0 w.1 k w.2).1 in
        more n b s w.0 w.1 k (λ j. bytes (suc j)) w.2 (rest t (at + suc (body_length (kind_of b))) (rw f at e))
    go (handed k c l, t) w e rest = absurd w
    go (done, t) w e rest = absurd w
    go (says c, t) w e rest = absurd w
    go (best c, t) w e rest = absurd w

-- ---- the job
pub ready_short : (s : List ℕ) (z : Model.Session world) → load_of s ≡ ready z → length s ≤ 65536
ready_short s z accepted = elim (dec_le (length s) most) [
  | yes k ↦ k
  | no k ↦ absurd (let e : tooLong ≡ ready z = sym (load-long s (omega arith)) ∙ accepted in let y : ◌≡◌ {A = ℕ} 0 1 = cc in omega arith)
]

-- whatever `list` accepts, without a word on lengths
pub shown-back : (s : List ℕ) (z : Model.Session world) → Bytes s → load_of s ≡ ready z → job_of (show_of s) ≡ s
unfolding Whole
shown-back s z bytes accepted =
    let rs = records_in (length s) s in
    let short = ready_short s z accepted in
    let w = load-whole (length s) (meaning fresh) z 0 s bytes (omega arith) (sym (load-records s short) ∙ accepted) in
    let e : show_of s ≡ text_of rs = rw accepted (joined-texts rs) in
    let n = records-size (length s) s bytes in
    ap job_of e ∙ text-back rs w.0 (omega arith) (rw w.1 short) ∙ w.1
