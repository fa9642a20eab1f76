-- A text printed in pieces, whatever the system answered to each write: what was taken is a beginning of it, and all of it exactly where the answer is true. Assumes nothing.
use Rattle.std.specs.Prelude.{◌≡◌, refl, Bool, true, false, List, [], ◌++◌, ℕ, ◌<◌, length, take, drop}
use Rattle.std.proofs.Common.{sym, ap, subst, ◌∙◌, append_assoc, append-nil, arith, length-append, length-drop, take-append-drop, drop_of_length-le, take_at}
use Rattle.system_transfer.specs.Sending.{Sent, sent_first, sent_all, sent_less}

-- texts one after another, none after one that was not taken whole: what they come to, the bytes that were taken, and whether those are all
pub data Run : List ℕ → List ℕ → Bool → Type 0 where
  begun : Run [] [] true
  piece : {s t b : List ℕ} {r : Bool} → Run s t true → (h : Sent b r) → Run (s ++ b) (t ++ h.taken) r

-- what a printing of a text came to: true only where all of it was offered
pub record Printed (text : List ℕ) (r : Bool) : Type 0 where
  pub offered : List ℕ
  pub taken : List ℕ
  pub left : List ℕ
  pub run : Run offered taken r
  pub whole : offered ++ left ≡ text
  pub over : r ≡ true → left ≡ []

-- what was offered and not taken
record Sound (s t : List ℕ) (r : Bool) : Type 0 where
  pub left : List ℕ
  pub parted : t ++ left ≡ s
  pub all : r ≡ true → left ≡ []
  pub less : r ≡ false → 0 < length left

never : {P : Type 0} → true ≡ false → P
never e = absurd (let y : ◌≡◌ {A = ℕ} 0 1 = cc in omega arith)

module _ (s t b : List ℕ) (r : Bool) (k : Sound s t true) (h : Sent b r) where
  abbrev rest : List ℕ
  rest = drop (length h.taken) b

  same : t ≡ s
  same = sym (append-nil t) ∙ ap (λ (l : List ℕ). t ++ l) (sym (k.all refl)) ∙ k.parted

  split : h.taken ++ rest ≡ b
  split = ap (λ (l : List ℕ). l ++ rest) (sent_first h) ∙ take-append-drop (length h.taken) b

  piece-sound : Sound (s ++ b) (t ++ h.taken) r
  piece-sound = record {
    left = rest;
    parted = append_assoc t h.taken rest ∙ ap (λ (l : List ℕ). t ++ l) split ∙ ap (λ (l : List ℕ). l ++ b) same;
    all = λ e. drop_of_length-le b {i = length h.taken} (let n = ap length (sent_all h e) in omega arith);
    less = λ e. let n = sent_less h e in let d = length-drop (length h.taken) b in omega arith;
  }

run_sound : {s t : List ℕ} {r : Bool} → Run s t r → Sound s t r
run_sound begun = record { left = []; parted = refl; all = λ e. refl; less = λ e. never e }
run_sound (piece {s} {t} {b} {r} k h) = piece-sound s t b r (run_sound k) h

module _ {text : List ℕ} {r : Bool} (h : Printed text r) where
  sound : Sound h.offered h.taken r
  sound = run_sound h.run

  parts : h.taken ++ (sound.left ++ h.left) ≡ text
  parts = sym (append_assoc h.taken sound.left h.left) ∙ ap (λ (l : List ℕ). l ++ h.left) sound.parted ∙ h.whole

  -- what was taken is a beginning of the text
  pub printed_first : h.taken ≡ take (length h.taken) text
  printed_first = rw (← parts) (sym (take_at h.taken (sound.left ++ h.left) (length h.taken) refl))

  -- all of it where the answer is true
  pub printed_all : r ≡ true → h.taken ≡ text
  printed_all e = sym (append-nil h.taken) ∙ ap (λ (l : List ℕ). h.taken ++ l) (sym (ap (λ (l : List ℕ). l ++ h.left) (sound.all e) ∙ h.over e)) ∙ parts

  -- and less of it where it is false
  pub printed_less : r ≡ false → length h.taken < length text
  printed_less e = let z = sound.less e in let n = ap length parts in let a = length-append h.taken (sound.left ++ h.left) in let b = length-append sound.left h.left in omega arith

-- one text
pub printed_one : {text : List ℕ} {r : Bool} → Sent text r → Printed text r
printed_one {text} h = record { offered = text; taken = h.taken; left = []; run = piece begun h; whole = append-nil text; over = λ e. refl }

-- no text
pub printed_none : Printed [] true
printed_none = record { offered = []; taken = []; left = []; run = begun; whole = refl; over = λ e. refl }

-- ---- what a loop of pieces carries: all was taken so far, and what is left is known
pub record Going (text left : List ℕ) : Type 0 where
  pub offered : List ℕ
  pub taken : List ℕ
  pub run : Run offered taken true
  pub joined : offered ++ left ≡ text

pub going_begun : (text left : List ℕ) → left ≡ text → Going text left
going_begun text left e = record { offered = []; taken = []; run = begun; joined = e }

module _ {text left b : List ℕ} {r : Bool} (after : List ℕ) (g : Going text left) (e : b ++ after ≡ left) (h : Sent b r) where
  parted : (g.offered ++ b) ++ after ≡ text
  parted = append_assoc g.offered b after ∙ ap (λ (l : List ℕ). g.offered ++ l) e ∙ g.joined

  pub go_on : r ≡ true → Going text after
  go_on t = let k = subst (Sent b) t h in record { offered = g.offered ++ b; taken = g.taken ++ k.taken; run = piece g.run k; joined = parted }

  pub stop : r ≡ false → Printed text false
  stop t = let k = subst (Sent b) t h in record { offered = g.offered ++ b; taken = g.taken ++ k.taken; left = after; run = piece g.run k; whole = parted; over = λ i. never (sym i) }

pub going_done : {text left : List ℕ} → Going text left → left ≡ [] → Printed text true
going_done {left} g e = record { offered = g.offered; taken = g.taken; left = left; run = g.run; whole = g.joined; over = λ i. e }
