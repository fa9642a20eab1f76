-- The machine that gathers lines byte by byte. Of an input, however it comes cut, it says the lines, each once and in order. Assumes nothing.
use Rattle.std.specs.Prelude.{◌≡◌, Bool, true, false, cond, ℕ, ◌+◌, ◌≤◌, ◌<◌, eqb, ltb, length, take}
use Rattle.std.proofs.Math.Path.{refl}
use Rattle.std.proofs.Common.{sym, ap, ◌∙◌, arith, ltb-true, ltb-false, lt-ltb, le-ltb, eq-eqb, ne_eqb, length-append}
use mathlib.Core.List.{List, [], ◌∷◌, ◌++◌, map, append_assoc, append-nil}
use Rattle.text_input_lines.specs.declared.Gathered.{Gathered}
use Rattle.text_input_lines.specs.declared.Said.{Said}
use Rattle.text_input_lines.specs.declared.Said.TheVariants as S
use Rattle.text_input_lines.specs.declared.Step.{Step}
use Rattle.text_input_lines.specs.Lines.{final_line, lines_with, Event, line, long, said_of, events_of}

abbrev pub none : Gathered
none = record { length = 0; long = false }

-- what is said where a line ends, and where the input does
abbrev pub whole_of : ℕ → Gathered → Said
whole_of room g = cond g.long S.TooLong (cond (ltb room g.length) S.TooLong (S.Line g.length))

abbrev pub last_of : ℕ → Gathered → Said
last_of room g = cond g.long S.TooLong (cond (eqb g.length 0) S.Nothing (whole_of room g))

abbrev pub is_said : Said → Bool
is_said (S.Line n) = true
is_said S.TooLong = true
is_said S.Nothing = false

-- one byte more of a line
pub record Grown (g : Gathered) (b : ℕ) (r : Gathered) (old new : List ℕ) : Type 0 where
  pub same : length new ≡ length old
  pub kept : g.long ≡ true → r ≡ g
  pub put : g.long ≡ false → g.length < length old → (r ≡ record { length = g.length + 1; long = false }) × (take (g.length + 1) new ≡ take g.length old ++ b ∷ [])
  pub full : g.long ≡ false → length old ≤ g.length → r ≡ record { length = g.length; long = true }

-- one byte more: a line feed ends the line, which stands as it was
pub data Stepped (g : Gathered) (b : ℕ) (r : Step) (old new : List ℕ) : Type 0 where
  ended : b ≡ 10 → new ≡ old → r ≡ record { next = none; said = whole_of (length old) g } → Stepped g b r old new
  grew : (b ≡ 10 → ⊥) → Grown g b r.next old new → r.said ≡ S.Nothing → Stepped g b r old new

-- what was said, with the line at the start of the slice
abbrev pub event_of : Said → List ℕ → List Event
event_of (S.Line n) buf = line (take n buf) ∷ []
event_of S.TooLong buf = long ∷ []
event_of S.Nothing buf = []

-- bytes one after another, from where a machine stands, and what was said of them, joined
pub data Run (g₀ : Gathered) (buf₀ : List ℕ) : List ℕ → List Event → Gathered → List ℕ → Type 0 where
  begun : Run g₀ buf₀ [] [] g₀ buf₀
  turned : {text : List ℕ} {said : List Event} {g : Gathered} {b : ℕ} {r : Step} {old new : List ℕ} → Run g₀ buf₀ text said g old → Stepped g b r old new
      → Run g₀ buf₀ (text ++ b ∷ []) (said ++ event_of r.said new) r.next new

-- the same machine goes on with what comes next: it is all one how the input comes cut
pub run_on : {g₀ g : Gathered} {buf₀ old first : List ℕ} {before : List Event} {r : Gathered} {new rest : List ℕ} {after : List Event} → Run g₀ buf₀ first before g old → Run g old rest after r new → Run g₀ buf₀ (first ++ rest) (before ++ after) r new
run_on {first} {before} k begun = rw (append-nil first, append-nil before) k
run_on {first} {before} k (turned {text} {said} {g} {b} {r} {old} {new} l s) =
    rw (← append_assoc first text (b ∷ []), ← append_assoc before said (event_of r.said new)) (turned (run_on k l) s)

-- ---- what is gathered are the bytes w of the line that is not ended
pub data Holds (room : ℕ) (w : List ℕ) (g : Gathered) (buf : List ℕ) : Type 0 where
  short : g.long ≡ false → g.length ≡ length w → take g.length buf ≡ w → length w ≤ room → Holds room w g buf
  over : g.long ≡ true → room < length w → Holds room w g buf

-- what will be said of a text behind the bytes w
abbrev behind : ℕ → List ℕ → List ℕ → List Event
behind room w text = map (said_of room) (lines_with w text)

module _ (room : ℕ) where
  -- a line that ends, and the last one
  whole-said : (w : List ℕ) (g : Gathered) (buf : List ℕ) → Holds room w g buf → event_of (whole_of room g) buf ≡ said_of room w ∷ []
  whole-said w g buf (short e n t h) =
      let f : ltb room (length w) ≡ false = le-ltb room (length w) h in
      rw (e, n, f) (rw n at (ap (λ (l : List ℕ). line l ∷ []) t))
  whole-said w g buf (over e h) = rw (e, lt-ltb room (length w) h) refl

  some : (b : ℕ) (w : List ℕ) → length (b ∷ w) ≡ 0 → ⊥
  some b w e = omega arith

  last-said : (w : List ℕ) (g : Gathered) (buf : List ℕ) → Holds room w g buf → event_of (last_of room g) buf ≡ map (said_of room) (final_line w)
  last-said [] g buf (short e n t h) = rw (e, n) refl
  last-said [] g buf (over e h) = absurd (omega arith)
  last-said (b ∷ w) g buf (short e n t h) =
      let f : ltb room (length (b ∷ w)) ≡ false = le-ltb room (length (b ∷ w)) h in
      let y : eqb (length (b ∷ w)) 0 ≡ false = ne_eqb (length (b ∷ w)) 0 (some b w) in
      rw (e, n, y, f) (rw n at (ap (λ (l : List ℕ). line l ∷ []) t))
  last-said (b ∷ w) g buf (over e h) = rw (e, lt-ltb room (length (b ∷ w)) h) refl

  -- one byte more of a line
  grown-holds : (w : List ℕ) (b : ℕ) (g r : Gathered) (old new : List ℕ) → length old ≡ room → Holds room w g old → Grown g b r old new → Holds room (w ++ b ∷ []) r new
  grown-holds w b g r old new l (over e h) k = over (ap (λ (x : Gathered). x.long) (k.kept e) ∙ e) (let z = length-append w (b ∷ []) in omega arith)
  grown-holds w b g r old new l (short e n t h) k = go (ltb g.length room) (ltb-true g.length room) (ltb-false g.length room)
    where
      go : (c : Bool) → (c ≡ true → g.length < room) → (c ≡ false → room ≤ g.length) → Holds room (w ++ b ∷ []) r new
      go true p q =
          let z = length-append w (b ∷ []) in
          let y = p refl in
          let x = k.put e (rw l y) in
          short (ap (λ (x : Gathered). x.long) x.0) (rw x.0 (omega arith)) (rw x.0 (x.1 ∙ ap (λ (v : List ℕ). v ++ b ∷ []) t)) (omega arith)
      go false p q =
          let z = length-append w (b ∷ []) in
          let y = q refl in
          over (ap (λ (x : Gathered). x.long) (k.full e (rw l y))) (omega arith)

  -- where a run stands: what was said and what will be are what is said of the whole
  pub record Stands (text : List ℕ) (said : List Event) (g : Gathered) (buf : List ℕ) : Type 0 where
    pub word : List ℕ
    pub holds : Holds room word g buf
    pub same : length buf ≡ room
    pub joined : (f : List ℕ) → said ++ behind room word f ≡ events_of room (text ++ f)

  step-stands : (text : List ℕ) (said : List Event) (g : Gathered) (b : ℕ) (r : Step) (old new : List ℕ) → Stands text said g old → Stepped g b r old new → Stands (text ++ b ∷ []) (said ++ event_of r.said new) r.next new
  unfolding lines_with
  step-stands text said g b r old new h (ended e n s) = record {
    word = [];
    holds = rw s (short refl refl refl (omega arith));
    same = rw n h.same;
    joined = λ f.
        let w : event_of r.said new ≡ said_of room h.word ∷ [] = rw (s, n, h.same) (whole-said h.word g old h.holds) in
        rw (w, append_assoc text (b ∷ []) f, append_assoc said (said_of room h.word ∷ []) (behind room [] f)) (rw (eq-eqb b 10 e) at (h.joined (b ∷ f)));
  }
  step-stands text said g b r old new h (grew e k s) = record {
    word = h.word ++ b ∷ [];
    holds = grown-holds h.word b g r.next old new h.same h.holds k;
    same = k.same ∙ h.same;
    joined = λ f. rw (s, append-nil said, append_assoc text (b ∷ []) f) (rw (ne_eqb b 10 e) at (h.joined (b ∷ f)));
  }

  run-stands : {buf₀ text buf : List ℕ} {said : List Event} {g : Gathered} → length buf₀ ≡ room → Run none buf₀ text said g buf → Stands text said g buf
  run-stands e begun = record { word = []; holds = short refl refl refl (omega arith); same = e; joined = λ f. refl }
  run-stands e (turned {text} {said} {g} {b} {r} {old} {new} k s) = step-stands text said g b r old new (run-stands e k) s

  -- over every input, what is said up to its end are its lines, each once and in order, and that it is too long of each that has more than `room` bytes
  pub lines_said : {buf₀ text buf : List ℕ} {said : List Event} {g : Gathered} → length buf₀ ≡ room → Run none buf₀ text said g buf → said ++ event_of (last_of room g) buf ≡ events_of room text
  unfolding lines_with
  lines_said {buf₀} {text} {buf} {said} {g} e k =
      let h = run-stands e k in
      rw (last-said h.word g buf h.holds) (rw (append-nil text) at (h.joined []))
