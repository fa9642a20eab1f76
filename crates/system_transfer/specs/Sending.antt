-- A text on its way out. Over every sequence of answers the bytes taken, joined, are a beginning of the text, and all of it exactly where the machine ends without a failure: none is offered again after it was taken, and none is skipped. Assumes nothing.
use Rattle.std.specs.Prelude.{◌≡◌, refl, Bool, true, false, not, cond, List, [], ◌++◌, ℕ, ◌+◌, ◌-◌, ◌≤◌, ◌<◌, eqb, ltb, ℤ, pos, negsuc, length, take, drop, Ok, Err}
use Rattle.std.proofs.Common.{sym, ap, ◌∙◌, append-nil, arith, ltb-true, ltb-false, eqb-true, length-take-le, take-add, of_z}
use Rattle.std.proofs.Math.Seq.{take-length}
use Rattle.std.specs.Int.{w32}
use Rattle.system_transfer.specs.declared.Fault.TheVariants as A
use Rattle.system_transfer.specs.declared.Transfer.{Transfer}
use Rattle.system_transfer.specs.Answers.{Moved, full_patience, answer_of}
use Rattle.system_transfer.specs.Transfer.{begun_of, closed_of, step_of, Inside, begun-inside, step-inside}

-- how many bytes a call moved, by what it answered
abbrev pub count_of : ℤ → ℕ
count_of (pos n) = n
count_of (negsuc n) = 0

-- after a write of what is left of the text, by the number that it answered and errno
abbrev pub sent_of : List ℕ → Transfer → ℤ → ℤ → Transfer
sent_of text s got error = step_of true (length text) s (answer_of got error)

-- the bytes that it took: the first of those that it was offered
abbrev pub took_of : List ℕ → Transfer → ℤ → List ℕ
took_of text s got = take (count_of got) (drop s.at text)

-- writes one after another from the beginning, whatever each of them answered, and the bytes that they took, joined
pub data Run (text : List ℕ) : List ℕ → Transfer → Type 0 where
  begun : Run text [] (begun_of (length text))
  turned : {t : List ℕ} {s : Transfer} → Run text t s → s.more ≡ true → (got error : ℤ) → Moved (length text - s.at) got → Run text (t ++ took_of text s got) (sent_of text s got error)

-- one write and its step
pub record Turn (text : List ℕ) (s r : Transfer) : Type 0 where
  pub got : ℤ
  pub error : ℤ
  pub fair : Moved (length text - s.at) got
  pub step : r ≡ sent_of text s got error

-- where a run stands: taken are the first bytes, the machine goes on only before the last one, and it ends without a failure only behind it
pub record Stands (text t : List ℕ) (s : Transfer) : Type 0 where
  pub first : t ≡ take s.at text
  pub inside : Inside (length text) s
  pub broken : s.failed ≡ true → s.at < length text
  pub through : s.more ≡ false → s.failed ≡ false → s.at ≡ length text

never : {P : Type 0} → {b : Bool} → b ≡ true → b ≡ false → P
never e f = absurd (let y : ◌≡◌ {A = ℕ} 0 1 = cc in omega arith)

module _ (text t : List ℕ) (s : Transfer) (h : Stands text t s) (o : s.more ≡ true) where
  abbrev size : ℕ
  size = length text

  -- a failure, with nothing taken
  closed-stands : Stands text (t ++ []) (closed_of s true)
  closed-stands = record {
    first = append-nil t ∙ h.first;
    inside = step-inside true size s h.inside (Err A.Failed);
    broken = λ e. h.inside.going o;
    through = λ e f. never refl f;
  }

  off : (b : Bool) (r : Transfer) → Inside size (cond b (closed_of s true) r) → r.at ≡ s.at → r.more ≡ s.more → r.failed ≡ false → Stands text (t ++ []) (cond b (closed_of s true) r)
  off true r i e m f = closed-stands
  off false r i e m f = record {
    first = append-nil t ∙ rw e h.first;
    inside = i;
    broken = λ g. never g f;
    through = λ g k. never o (sym m ∙ g);
  }

  on : (n : ℕ) → n ≤ size - s.at → (b c : Bool) → (b ≡ true → n ≡ 0) → (c ≡ true → size - s.at < n)
      → Inside size (cond b (closed_of s true) (cond c (closed_of s true) (record { at = s.at + n; patience = full_patience; more = ltb (s.at + n) size; failed = false })))
      → Stands text (t ++ take n (drop s.at text)) (cond b (closed_of s true) (cond c (closed_of s true) (record { at = s.at + n; patience = full_patience; more = ltb (s.at + n) size; failed = false })))
  on n k true c e f i = rw (e refl) closed-stands
  on n k false true e f i = absurd (let z = f refl in omega arith)
  on n k false false e f i = record {
    first = rw h.first (sym (take-add s.at n text));
    inside = i;
    broken = λ g. never g refl;
    through = λ g j. let z = ltb-false (s.at + n) size g in let y = h.inside.room in omega arith;
  }

  stands : (got error : ℤ) → Moved (size - s.at) got → Stands text (t ++ took_of text s got) (sent_of text s got error)
  stands (pos n) error k = on n k (eqb n 0) (ltb (size - s.at) n) (eqb-true n 0) (ltb-true (size - s.at) n) (step-inside true size s h.inside (Ok n))
  stands (negsuc n) error k = errs (eqb (of_z w32 error) 11) (eqb (of_z w32 error) 4)
    where
      errs : (b c : Bool) → Stands text (t ++ []) (step_of true size s (cond b (Err A.NotNow) (cond c (Err A.Interrupted) (Err A.Failed))))
      errs true c = off (eqb s.patience.left 0) _ (step-inside true size s h.inside (Err A.NotNow)) refl refl refl
      errs false true = off (eqb s.patience.left 0) _ (step-inside true size s h.inside (Err A.Interrupted)) refl refl refl
      errs false false = closed-stands

begun-stands : (text : List ℕ) → Stands text [] (begun_of (length text))
begun-stands text = record {
  first = refl;
  inside = begun-inside (length text);
  broken = λ e. never e refl;
  through = λ e f. let z = ltb-false 0 (length text) e in omega arith;
}

pub run-stands : {text t : List ℕ} {s : Transfer} → Run text t s → Stands text t s
run-stands {text} begun = begun-stands text
run-stands {text} (turned {t} {s} k o got error m) = stands text t s (run-stands k) o got error m

-- ---- what a printing of the text came to: a run to the end of the machine, and whether it ended without a failure
pub record Sent (text : List ℕ) (r : Bool) : Type 0 where
  pub taken : List ℕ
  pub state : Transfer
  pub run : Run text taken state
  pub over : state.more ≡ false
  pub answer : r ≡ not state.failed

-- the bytes taken are a beginning of the text
pub sent_first : {text : List ℕ} {r : Bool} → (h : Sent text r) → h.taken ≡ take (length h.taken) text
sent_first {text} h =
    let s = run-stands h.run in
    let n : length h.taken ≡ h.state.at = ap length s.first ∙ length-take-le h.state.at text s.inside.room in
    rw n s.first

-- all of it where the answer is true
pub sent_all : {text : List ℕ} {r : Bool} → (h : Sent text r) → r ≡ true → h.taken ≡ text
sent_all {text} h e =
    let s = run-stands h.run in
    let f : h.state.failed ≡ false = not-false h.state.failed (sym h.answer ∙ e) in
    s.first ∙ rw (s.through h.over f) (take-length text)
  where
    not-false : (b : Bool) → not b ≡ true → b ≡ false
    not-false true e = sym e
    not-false false e = refl

-- and less of it where it is false
pub sent_less : {text : List ℕ} {r : Bool} → (h : Sent text r) → r ≡ false → length h.taken < length text
sent_less {text} h e =
    let s = run-stands h.run in
    let n : length h.taken ≡ h.state.at = ap length s.first ∙ length-take-le h.state.at text s.inside.room in
    let l = s.broken (not_true h.state.failed (sym h.answer ∙ e)) in
    omega arith
  where
    not_true : (b : Bool) → not b ≡ false → b ≡ true
    not_true true e = refl
    not_true false e = sym e

-- ---- what a loop of writes carries
pub record Going (text : List ℕ) (s : Transfer) : Type 0 where
  pub taken : List ℕ
  pub run : Run text taken s

pub go_on : {text : List ℕ} {s r : Transfer} → Going text s → s.more ≡ true → Turn text s r → Going text r
go_on {text} {s} h o k = record { taken = h.taken ++ took_of text s k.got; run = rw k.step (turned h.run o k.got k.error k.fair) }
