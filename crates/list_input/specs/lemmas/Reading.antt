-- An accepted reading takes a byte at least and no more than there are; and the records from a place on, by the reading there.
use Rattle.std.specs.Prelude.{◌≡◌, List, ℕ, zero, suc, ◌+◌, ◌-◌, ◌≤◌, ◌<◌, length, drop, Bool}
use Rattle.std.proofs.Math.Path.{refl}
use Rattle.std.proofs.Common.{sym, ap, ◌∙◌, lt-ltb, le-ltb, drop_of_length-le, drop-cons, drop-drop}
use native.Mathlib.Omega.{arith}
use Rattle.record.specs.declared.Reading as D
use Rattle.record.specs.declared.Reading.TheVariants as RV
use Rattle.record.specs.declared.Record.{Record}
use Rattle.record.specs.declared.Record.TheVariants as R
use Rattle.record_kinds.specs.declared.Turn.TheVariants as T
use Rattle.record.specs.Record.{reading_of}
use Rattle.record.specs.lemmas.Taken.{reading_takes}
use Rattle.session_model.specs.Session.{reading, refused, taken, early, walking, step, joined, remembered}
use Rattle.session_model.specs.Session as Model
use Rattle.ranks.specs.Rest.{Place}
use Rattle.region.specs.declared.Region.{Region}
use Rattle.region.specs.declared.Job.{Job}
use Rattle.operator.specs.declared.Operator.{Operator}
use Rattle.session_stages.specs.declared.Parts.{Parts}
use Rattle.session_stages.specs.declared.Parts.TheVariants.{Nothing, Scaled, Selected, First}
use Rattle.session_stages.specs.World.{world, turn_at, place_scale, place_selection, place_region, place, note, part_reading, operator_reading}
use Rattle.session_stages.specs.Session.{meaning, fresh}
use Rattle.list_input.specs.Load.{Loaded, tooLong, finished, onward, records, most, load_of}

Bounds : ℕ → List ℕ → Type 0
Bounds n b = (1 ≤ n) × (n ≤ length b)

-- ---- the bytes taken are the record's
module _ (n : ℕ) (m : Model.Session world) where
  never : {P : Type 0} (r : ℕ) (t : Model.Session world) → ◌≡◌ {A = Model.Outcome world} (refused r, t) (taken n, m) → P
  never r t e =
      let a : ◌≡◌ {A = Model.Answer world} (refused r) (taken n) = ap (λ (o : Model.Outcome world). o.0) e in
      absurd (let z : ◌≡◌ {A = ℕ} 0 1 = cc in omega arith)

  same : (k : ℕ) (t : Model.Session world) → ◌≡◌ {A = Model.Outcome world} (taken k, t) (taken n, m) → n ≡ k
  same k t e = let a : ◌≡◌ {A = Model.Answer world} (taken k) (taken n) = ap (λ (o : Model.Outcome world). o.0) e in cc

  scale-takes : (p : Parts) (h k : ℕ) → joined world p (place_scale p h k) ≡ (taken n, m) → n ≡ k
  scale-takes Nothing h k e = same k _ e
  scale-takes (Scaled i) h k e = never _ _ e
  scale-takes (Selected i all) h k e = never _ _ e
  scale-takes (First i all a) h k e = never _ _ e

  selection-takes : (p : Parts) (b : Bool) (k : ℕ) → joined world p (place_selection p b k) ≡ (taken n, m) → n ≡ k
  selection-takes Nothing b k e = never _ _ e
  selection-takes (Scaled i) b k e = same k _ e
  selection-takes (Selected i all) b k e = never _ _ e
  selection-takes (First i all a) b k e = never _ _ e

  region-takes : (p : Parts) (b : Region) (k : ℕ) → joined world p (place_region p b k) ≡ (taken n, m) → n ≡ k
  region-takes Nothing b k e = never _ _ e
  region-takes (Scaled i) b k e = same k _ e
  region-takes (Selected i all) b k e = same k _ e
  region-takes (First i all a) b k e = same k _ e

  place-takes : (p : Parts) (x : Record) (k : ℕ) → joined world p (place p x k) ≡ (taken n, m) → n ≡ k
  place-takes p (R.Scale h) k e = scale-takes p h k e
  place-takes p (R.Selection b) k e = selection-takes p b k e
  place-takes p (R.Region b) k e = region-takes p b k e
  place-takes p (R.Operator g) k e = never _ _ e

  note-takes : (j : Job) (w : Place) (o : Operator) (x : Record) (k : ℕ) → remembered world j w o (note x k) ≡ (taken n, m) → n ≡ k
  note-takes j w o (R.Scale h) k e = never _ _ e
  note-takes j w o (R.Selection b) k e = never _ _ e
  note-takes j w o (R.Region a) k e = never _ _ e
  note-takes j w o (R.Operator g) k e = same k _ e

  part-bounds : (b : List ℕ) (p : Parts) (r : D.Reading) → reading_of b (turn_at p) ≡ r → joined world p (part_reading p r) ≡ (taken n, m) → Bounds n b
  unfolding Bounds
  part-bounds b p (RV.Accepted x k) h e = let f = place-takes p x k e in let t = reading_takes x k b (turn_at p) h in (omega arith, omega arith)
  part-bounds b p (RV.Refused f) h e = never _ _ e

  operator-bounds : (b : List ℕ) (j : Job) (w : Place) (o : Operator) (r : D.Reading) → reading_of b T.Operators ≡ r → remembered world j w o (operator_reading r) ≡ (taken n, m)
      → Bounds n b
  unfolding Bounds
  operator-bounds b j w o (RV.Accepted x k) h e = let f = note-takes j w o x k e in let t = reading_takes x k b T.Operators h in (omega arith, omega arith)
  operator-bounds b j w o (RV.Refused f) h e = never _ _ e

  pub step-takes : (b : List ℕ) (s : Model.Session world) → step world (reading b) s ≡ (taken n, m) → (1 ≤ n) × (n ≤ length b)
  unfolding Bounds
  step-takes b (early p) e = part-bounds b p (reading_of b (turn_at p)) refl e
  step-takes b (walking j w o) e = operator-bounds b j w o (reading_of b T.Operators) refl e

-- ---- the records from a place on
pub records-end : (most : ℕ) (m : Model.Session world) (at : ℕ) (bytes : List ℕ) → length bytes ≤ at → records most m at (drop at bytes) ≡ finished m at
unfolding records
records-end zero m at bytes h = refl
records-end (suc most) m at bytes h = rw (drop_of_length-le bytes h) refl

module _ (m : Model.Session world) (at : ℕ) (bytes : List ℕ) (some : at < length bytes) where
  on : (most : ℕ) → records (suc most) m at (drop at bytes) ≡ onward (λ n t. records most t (at + n) (drop n (drop at bytes))) m at (step world (reading (drop at bytes)) m)
  unfolding records
  on most = rw (drop-cons bytes at 0 some) refl

  -- a reading after which there is none
  pub records-stop : (most : ℕ) → length bytes - at ≤ most → (o : Model.Outcome world) → o ≡ step world (reading (drop at bytes)) m → (z : Loaded)
      → ((next : ℕ → Model.Session world → Loaded) → onward next m at o ≡ z) → records most m at (drop at bytes) ≡ z
  records-stop zero h o e z f = absurd (omega arith)
  records-stop (suc most) h o e z f = on most ∙ rw (← e) (f (λ n t. records most t (at + n) (drop n (drop at bytes))))

  -- an accepted one
  pub records-take : (most : ℕ) → length bytes - at ≤ most → (n : ℕ) (t : Model.Session world) → ◌≡◌ {A = Model.Outcome world} (taken n, t) (step world (reading (drop at bytes)) m)
      → (less : ℕ) × (length bytes - (at + n) ≤ less) × (records less t (at + n) (drop (at + n) bytes) ≡ records most m at (drop at bytes))
  records-take zero h n t e = absurd (omega arith)
  records-take (suc most) h n t e =
      let b = step-takes n t (drop at bytes) m (sym e) in
      (most, omega arith, sym (on most ∙ rw (← e) (ap (records most t (at + n)) (drop-drop n at bytes))))

-- ---- the whole input
pub load-long : (bytes : List ℕ) → most < length bytes → load_of bytes ≡ tooLong
unfolding load_of
load-long bytes h = rw (lt-ltb most (length bytes) h) refl

pub load-records : (bytes : List ℕ) → length bytes ≤ most → load_of bytes ≡ records (length bytes) (meaning fresh) 0 bytes
unfolding load_of
load-records bytes h = rw (le-ltb most (length bytes) h) refl
