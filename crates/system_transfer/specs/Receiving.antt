-- An input on its way in: what the reads gave up to the answer 0. A read that fails is no end. Assumes nothing.
use Rattle.std.specs.Prelude.{◌≡◌, refl, Bool, true, false, cond, ◌⊎◌, List, [], ◌++◌, ℕ, ◌+◌, ◌-◌, ◌≤◌, ◌<◌, eqb, ltb, ℤ, pos, negsuc, length, take, drop, Ok, Err}
use Rattle.std.proofs.Common.{sym, ap, ◌∙◌, inl, inr, append-nil, arith, ltb-true, ltb-false, eqb-true, length-take-le, take-add, of_z}
use Rattle.std.specs.Int.{w32}
use Rattle.io.specs.Counts.{IsPrefixLen}
use Rattle.system_transfer.specs.declared.Fault.TheVariants as A
use Rattle.system_transfer.specs.declared.Transfer.{Transfer}
use Rattle.system_transfer.specs.Answers.{Moved, full_patience, answer_of}
use Rattle.system_transfer.specs.Transfer.{begun_of, closed_of, step_of, Inside, begun-inside, step-inside}
use Rattle.system_transfer.specs.Sending.{count_of}

-- after a read into the rest of a slice of `size` bytes, by the number that it answered and errno
abbrev pub received_of : ℕ → Transfer → ℤ → ℤ → Transfer
received_of size s got error = step_of false size s (answer_of got error)

-- the slice keeps its length and its first bytes
pub record Keeps (n : ℕ) (old new : List ℕ) : Type 0 where
  pub same : length new ≡ length old
  pub front : take n new ≡ take n old

-- reads one after another into a slice of `size` bytes, whatever each of them answered and put behind the bytes before it, and the bytes that they gave, joined
pub data Run (size : ℕ) : List ℕ → Transfer → List ℕ → Type 0 where
  begun : {buf : List ℕ} → length buf ≡ size → Run size [] (begun_of size) buf
  turned : {t : List ℕ} {s : Transfer} {old new : List ℕ} → Run size t s old → s.more ≡ true → (got error : ℤ) → Moved (size - s.at) got → Keeps s.at old new
      → Run size (t ++ take (count_of got) (drop s.at new)) (received_of size s got error) new

-- one read and its step
pub record Turn (s r : Transfer) (old new : List ℕ) : Type 0 where
  pub got : ℤ
  pub error : ℤ
  pub fair : Moved (length old - s.at) got
  pub kept : Keeps s.at old new
  pub step : r ≡ received_of (length old) s got error

-- the last read of a run gave nothing
abbrev pub Nothing : {size : ℕ} {t : List ℕ} {s : Transfer} {buf : List ℕ} → Run size t s buf → Type 0
Nothing (begun e) = ⊥
Nothing (turned k o got error m h) = got ≡ pos 0

-- where a run stands: what was given stands at the start of the slice
pub record Stands (size : ℕ) (t : List ℕ) (s : Transfer) (buf : List ℕ) : Type 0 where
  pub given : t ≡ take s.at buf
  pub same : length buf ≡ size
  pub inside : Inside size s

module _ (size : ℕ) (t : List ℕ) (s : Transfer) (old new : List ℕ) (h : Stands size t s old) (w : Keeps s.at old new) where
  same_size : length new ≡ size
  same_size = w.same ∙ h.same

  given : t ≡ take s.at new
  given = h.given ∙ sym w.front

  stays : (b : Bool) (r q : Transfer) → Inside size (cond b r q) → r.at ≡ s.at → q.at ≡ s.at → Stands size (t ++ []) (cond b r q) new
  stays true r q i e f = record { given = append-nil t ∙ rw e given; same = same_size; inside = i }
  stays false r q i e f = record { given = append-nil t ∙ rw f given; same = same_size; inside = i }

  on : (n : ℕ) → n ≤ size - s.at → (b c : Bool) → (b ≡ true → n ≡ 0) → (c ≡ true → size - s.at < n)
      → Inside size (cond b (closed_of s false) (cond c (closed_of s true) (record { at = s.at + n; patience = full_patience; more = ltb (s.at + n) size; failed = false })))
      → Stands size (t ++ take n (drop s.at new)) (cond b (closed_of s false) (cond c (closed_of s true) (record { at = s.at + n; patience = full_patience; more = ltb (s.at + n) size; failed = false }))) new
  on n k true c e f i = rw (e refl) (record { given = append-nil t ∙ given; same = same_size; inside = i })
  on n k false true e f i = absurd (let z = f refl in omega arith)
  on n k false false e f i = record { given = rw given (sym (take-add s.at n new)); same = same_size; inside = i }

  stands : (got error : ℤ) → Moved (size - s.at) got → Stands size (t ++ take (count_of got) (drop s.at new)) (received_of size s got error) new
  stands (pos n) error k = on n k (eqb n 0) (ltb (size - s.at) n) (eqb-true n 0) (ltb-true (size - s.at) n) (step-inside false size s h.inside (Ok n))
  stands (negsuc n) error k = errs (eqb (of_z w32 error) 11) (eqb (of_z w32 error) 4)
    where
      errs : (b c : Bool) → Stands size (t ++ []) (step_of false size s (cond b (Err A.NotNow) (cond c (Err A.Interrupted) (Err A.Failed)))) new
      errs true c = stays (eqb s.patience.left 0) _ _ (step-inside false size s h.inside (Err A.NotNow)) refl refl
      errs false true = stays (eqb s.patience.left 0) _ _ (step-inside false size s h.inside (Err A.Interrupted)) refl refl
      errs false false = stays true _ s (step-inside false size s h.inside (Err A.Failed)) refl refl

pub run-stands : {size : ℕ} {t : List ℕ} {s : Transfer} {buf : List ℕ} → Run size t s buf → Stands size t s buf
run-stands {size} (begun e) = record { given = refl; same = e; inside = begun-inside size }
run-stands {size} (turned {t} {s} {old} {new} k o got error m w) = stands size t s old new (run-stands k) w got error m

-- ---- it ends without a failure only behind an answer of 0, or with the slice full
never : {P : Type 0} {b : Bool} → b ≡ true → b ≡ false → P
never e f = absurd (let y : ◌≡◌ {A = ℕ} 0 1 = cc in omega arith)

module _ (size : ℕ) (s : Transfer) (o : s.more ≡ true) (room : s.at ≤ size) where
  moved_ends : (n : ℕ) → n ≤ size - s.at → (b c : Bool) → (b ≡ true → n ≡ 0) → (r : Transfer)
      → r ≡ cond b (closed_of s false) (cond c (closed_of s true) (record { at = s.at + n; patience = full_patience; more = ltb (s.at + n) size; failed = false }))
      → r.more ≡ false → r.failed ≡ false → (pos n ≡ pos 0) ⊎ (r.at ≡ size)
  moved_ends n k true c e r g p q = inl (ap pos (e refl))
  moved_ends n k false true e r g p q = never (ap (λ (x : Transfer). x.failed) g) q
  moved_ends n k false false e r g p q = inr (rw g (let z = ltb-false (s.at + n) size (rw g at p) in omega arith))

  off-ends : (P : Type 0) (b : Bool) (r q : Transfer) → r.more ≡ s.more → q ≡ cond b (closed_of s true) r → q.more ≡ false → q.failed ≡ false → P
  off-ends P true r q e g i j = never (ap (λ (x : Transfer). x.failed) g) j
  off-ends P false r q e g i j = never (rw (g, e) o) i

  ends : (got error : ℤ) → Moved (size - s.at) got → (received_of size s got error).more ≡ false → (received_of size s got error).failed ≡ false → (got ≡ pos 0) ⊎ ((received_of size s got error).at ≡ size)
  ends (pos n) error k p q = moved_ends n k (eqb n 0) (ltb (size - s.at) n) (eqb-true n 0) _ refl p q
  ends (negsuc n) error k p q = errs (eqb (of_z w32 error) 11) (eqb (of_z w32 error) 4) p q
    where
      errs : (b c : Bool) → (step_of false size s (cond b (Err A.NotNow) (cond c (Err A.Interrupted) (Err A.Failed)))).more ≡ false → (step_of false size s (cond b (Err A.NotNow) (cond c (Err A.Interrupted) (Err A.Failed)))).failed ≡ false
          → (negsuc n ≡ pos 0) ⊎ ((step_of false size s (cond b (Err A.NotNow) (cond c (Err A.Interrupted) (Err A.Failed)))).at ≡ size)
      errs true c p q = off-ends _ (eqb s.patience.left 0) _ _ refl refl p q
      errs false true p q = off-ends _ (eqb s.patience.left 0) _ _ refl refl p q
      errs false false p q = never refl q

pub run-ended : {size : ℕ} {t : List ℕ} {s : Transfer} {buf : List ℕ} → (k : Run size t s buf) → s.more ≡ false → s.failed ≡ false → Nothing k ⊎ (s.at ≡ size)
run-ended {size} (begun e) p q = inr (let z = ltb-false 0 size p in omega arith)
run-ended {size} (turned {t} {s} {old} {new} k o got error m w) p q = ends size s o (run-stands k).inside.room got error m p q

-- ---- what the reading of an input came to: a run to the end of the machine, whose bytes stand at the start of the slice; without a failure only where a read gave nothing, or the slice is full
pub record Received (buf : List ℕ) (r : Transfer) : Type 0 where
  pub bytes : List ℕ
  pub run : Run (length buf) bytes r buf
  pub over : r.more ≡ false
  pub counts : IsPrefixLen r.at buf

pub received_bytes : {buf : List ℕ} {r : Transfer} → (h : Received buf r) → h.bytes ≡ take r.at buf
received_bytes h = (run-stands h.run).given

pub received_end : {buf : List ℕ} {r : Transfer} → (h : Received buf r) → r.failed ≡ false → Nothing h.run ⊎ (r.at ≡ length buf)
received_end h e = run-ended h.run h.over e

-- ---- and of one that asks until a byte has come
pub record Arrived (buf : List ℕ) (r : Transfer) : Type 0 where
  pub bytes : List ℕ
  pub run : Run (length buf) bytes r buf
  pub some : r.more ≡ true → 0 < r.at
  pub counts : IsPrefixLen r.at buf

-- ---- what a loop of reads carries
pub record Reading (size : ℕ) (buf : List ℕ) (s : Transfer) : Type 0 where
  pub bytes : List ℕ
  pub run : Run size bytes s buf

pub read-on : {size : ℕ} {s r : Transfer} {old new : List ℕ} → Reading size old s → s.more ≡ true → Turn s r old new → Reading size new r
read-on {size} {s} {r} {old} {new} h o k =
    let e = (run-stands h.run).same in
    record {
      bytes = h.bytes ++ take (count_of k.got) (drop s.at new);
      run = rw (k.step, e) (turned h.run o k.got k.error (rw e at k.fair) k.kept);
    }

pub reading_counts : {size : ℕ} {s : Transfer} {buf : List ℕ} → Reading size buf s → IsPrefixLen s.at buf
reading_counts {size} {s} {buf} h =
    let k = run-stands h.run in
    let n : s.at ≤ length buf = rw k.same k.inside.room in
    (n, sym (length-take-le s.at buf n))

pub received : {size : ℕ} {s : Transfer} {buf : List ℕ} → Reading size buf s → s.more ≡ false → Received buf s
received h e = record { bytes = h.bytes; run = rw (run-stands h.run).same h.run; over = e; counts = reading_counts h }

pub arrived : {size : ℕ} {s : Transfer} {buf : List ℕ} → Reading size buf s → (s.more ≡ true → 0 < s.at) → Arrived buf s
arrived h e = record { bytes = h.bytes; run = rw (run-stands h.run).same h.run; some = e; counts = reading_counts h }
