-- What the code meets: a line of a text after the other, what a row of the code means, and how long the records are. Assumes nothing.
use Rattle.std.specs.Prelude.{◌≡◌, Bool, true, false, not, cond, ◌⊎◌, eqb, ltb, ℤ, pos, negsuc, ◌*ℤ◌, get_or}
use Rattle.std.proofs.Math.Path.{refl, ap, ap₂}
use Rattle.std.proofs.Common.{sym, ◌∙◌, inl, inr, mul-le-mul, lt_of_le_of_lt, lit≤, length-append, length-take, drop_of_length-le}
use mathlib.Core.List.{List, [], ◌∷◌, ◌++◌, map, append-nil, append_assoc}
use Prim.Native.Nat.{ℕ, zero, suc, ◌+◌, ◌-◌, ◌^◌, ◌≤◌, ◌<◌, min}
use Rattle.std.proofs.Math.Nat.{min-eq_left, min-eq_right}
use Rattle.std.proofs.Math.Decide.{dec_le}
use native.Mathlib.Omega.{arith}
use Rattle.std.specs.Int.Signed.{mag, lt_z}
use Rattle.std.proofs.Math.ListN.{length, take, drop, length-drop}
use Rattle.std.proofs.Math.Seq.{drop-drop}
use borrow.Author.Tests.{ltb-true, ltb-false, lt-ltb, le-ltb, ne_eqb}
use Rattle.record_kinds.specs.declared.Kind.{Kind}
use Rattle.record_kinds.specs.declared.Kind.TheVariants as K
use Rattle.record_kinds.specs.Kinds.{body_length}
use Rattle.record_forms.specs.declared.Field.{Field}
use Rattle.record_forms.specs.Forms.{fields_of, takes, takes_all, record_bytes}
use Rattle.record_forms.specs.Back.{size-kind, length-body}
use Rattle.record_forms.specs.Laid.{Slate, laid, Laid, laid-append}
use Rattle.text_scan.specs.Run.{run, end_of_run, is_byte, spaces_from, word_end, line_end}
use Rattle.text_words.specs.declared.Numbers as N
use Rattle.text_words.specs.Names.{place_of}
use Rattle.text_words.specs.Bytes.{word_from, next_from}
use Rattle.text_words.specs.Numbers.{Listed, numbers, numbers_from, listed_of}
use Rattle.text_words.specs.Numbers as W
use Rattle.text_input_lines.specs.Lines.{final_line, lines_with}
use Rattle.list_lines.specs.Lines.{too_long_line}
use Rattle.text.specs.Written.{written, after}
use Rattle.text_puts.specs.Texts.{number_texts}
use Rattle.text_puts.specs.Puts.{Puts, puts, joined, weaken}
use Rattle.job_words.specs.declared.Row as D
use Rattle.job_words.specs.Rows.{Row, none, said, bad, meaning, fitted, numbered, disk_numbers, disk_of, choices, choice_of, last_place, selection, names, named, words_row, row_of, rows_of, is_bad, first_bad, row_bytes, bytes_of, singles, job_texts}

-- what a row of the code says, and that its numbers have room
pub record Means (row : Row) (r : D.Row) : Type 0 where
  pub is : meaning r ≡ row
  pub few : r.count ≤ 8
  pub wide : 8 ≤ length r.numbers
  pub fits : r.blank ≡ false → r.good ≡ true → takes_all (fields_of r.kind) (take r.count r.numbers) ≡ true

never : {P : Type 0} → false ≡ true → P
never e = absurd (let y : ◌≡◌ {A = ℕ} 0 1 = cc in omega arith)

pub means_empty : (r : D.Row) (blank : Bool) → r.blank ≡ blank → r.good ≡ false → r.count ≡ 0 → 8 ≤ length r.numbers → Means (cond blank none bad) r
means_empty r blank e f g w = record { is = rw (e, f) refl; few = omega arith; wide = w; fits = λ p q. never (sym f ∙ q) }

pub means_fitted : (k : Kind) (zs : List ℤ) (r : D.Row) → r.kind ≡ k → take r.count r.numbers ≡ zs → r.count ≤ 8 → 8 ≤ length r.numbers → r.blank ≡ false → r.good ≡ takes_all (fields_of k) zs → Means (fitted k zs) r
unfolding fitted
means_fitted k zs r e f n w g h = record { is = rw (g, h, e, f) refl; few = n; wide = w; fits = λ p q. rw (e, f) (sym h ∙ q) }

pub means_is : {a b : Row} {r : D.Row} → a ≡ b → Means a r → Means b r
means_is e m = record { is = m.is ∙ e; few = m.few; wide = m.wide; fits = m.fits }

-- ---- numbers without room
long_not : (fs : List Field) (zs : List ℤ) → length fs < length zs → takes_all fs zs ≡ false
unfolding takes_all
long_not [] [] h = absurd (omega arith)
long_not [] (z ∷ zs) h = refl
long_not (f ∷ fs) [] h = refl
long_not (f ∷ fs) (z ∷ zs) h = go (takes f z) (long_not fs zs (omega arith))
  where
    go : (b : Bool) → takes_all fs zs ≡ false → cond b (takes_all fs zs) false ≡ false
    go true e = e
    go false e = refl

few_fields : (k : Kind) → length (fields_of k) ≤ 8
unfolding fields_of
few_fields K.Scale = omega arith
few_fields K.Rectangle = omega arith
few_fields K.Ellipse = omega arith
few_fields K.Operator = omega arith
few_fields K.Slice = omega arith
few_fields K.Selection = omega arith
few_fields K.Unknown = omega arith

pub many_bad : (k : Kind) (zs : List ℤ) → 8 < length zs → bad ≡ fitted k zs
unfolding fitted
many_bad k zs h = let n = few_fields k in rw (long_not (fields_of k) zs (omega arith)) refl

pub many_taken : (k : Kind) (n : ℕ) (zs : List ℤ) → 8 < n → 8 < length zs → bad ≡ fitted k (take n zs)
many_taken k n zs h l = many_bad k (take n zs) (let e = length-take n zs in let m = min-le-of n (length zs) in omega arith)
  where
    min-le-of : (n m : ℕ) → (min n m ≡ n) ⊎ (min n m ≡ m)
    min-le-of n m = elim (dec_le n m) [ yes k ↦ inl (min-eq_left k) | no k ↦ inr (min-eq_right (omega arith)) ]

-- `disk N` with an N that has no room
pub disk-negative : (z : ℤ) → lt_z z (pos 0) ≡ true → bad ≡ fitted K.Ellipse (disk_numbers z)
unfolding fitted takes_all takes fields_of
disk-negative (pos n) e = absurd (let h = ltb-true n 0 e in omega arith)
disk-negative (negsuc n) e = refl

pub disk-large : (z : ℤ) → lt_z (pos 65535) z ≡ true → bad ≡ fitted K.Ellipse (disk_numbers z)
unfolding fitted takes_all takes fields_of
disk-large (pos n) e = go (ltb n 65536) refl
  where
    go : (b : Bool) → ltb n 65536 ≡ b → bad ≡ cond (cond b (takes_all (drop 1 (fields_of K.Ellipse)) (drop 1 (disk_numbers (pos n)))) false) (said K.Ellipse (disk_numbers (pos n))) bad
    go true f = absurd (let k = ltb-true n 65536 f in let h = ltb-true 65535 n e in omega arith)
    go false f = refl
disk-large (negsuc n) e = refl

-- and one that has room has a square that fits
pub small-square : (z : ℤ) → lt_z z (pos 0) ≡ false → lt_z (pos 65535) z ≡ false → mag (z *ℤ z) < 2 ^ 63
small-square (pos n) e f = let h = ltb-false 65535 n f in let m = mul-le-mul {n₁ = n} {m₁ = n} {n₂ = 65535} {m₂ = 65535} h h in lt_of_le_of_lt m (lit≤ tt)
small-square (negsuc n) e f = never (sym e)

-- ---- the numbers of a line, and one of them
pub listed-good : (n : N.Numbers) (l : Listed) → listed_of n ≡ l → n.good ≡ true → l ≡ numbers (take n.count n.values)
listed-good n l e g = sym e ∙ rw g refl

pub listed-none : (n : N.Numbers) (l : Listed) → listed_of n ≡ l → n.good ≡ false → l ≡ W.bad
listed-none n l e g = sym e ∙ rw g refl

pub disk-many : (n : ℕ) (zs : List ℤ) → (n ≡ 1 → ⊥) → 2 ≤ length zs → bad ≡ disk_of (take n zs)
disk-many zero zs f h = refl
disk-many (suc zero) zs f h = absurd (f refl)
disk-many (suc (suc n)) [] f h = absurd (omega arith)
disk-many (suc (suc n)) (z ∷ []) f h = absurd (omega arith)
disk-many (suc (suc n)) (z ∷ y ∷ zs) f h = refl

pub disk-one : (n : ℕ) (zs : List ℤ) → n ≡ 1 → 1 ≤ length zs → fitted K.Ellipse (disk_numbers (get_or zs 0 (pos 0))) ≡ disk_of (take n zs)
disk-one n [] e h = absurd (omega arith)
disk-one n (z ∷ zs) e h = rw e refl

-- ---- a line by its words
module _ (l : List ℕ) (from p : ℕ) (e : p ≡ last_place l (spaces_from l from)) where
  pub choice_first : p ≡ 0 → fitted K.Selection (pos 0 ∷ []) ≡ selection l from
  unfolding selection choice_of
  choice_first f = rw (← e, f) refl

  pub choice_second : p ≡ 1 → fitted K.Selection (pos 1 ∷ []) ≡ selection l from
  unfolding selection choice_of
  choice_second f = rw (← e, f) refl

  pub choice_other : (p ≡ 0 → ⊥) → (p ≡ 1 → ⊥) → numbered K.Selection (numbers_from l from) ≡ selection l from
  unfolding selection choice_of
  choice_other f g = rw (← e, ne_eqb p 0 f, ne_eqb p 1 g) refl

module _ (l : List ℕ) (at : ℕ) where
  pub last_not : next_from l at < length l → 2 ≡ last_place l at
  unfolding last_place
  last_not h = rw (lt-ltb (next_from l at) (length l) h) refl

  pub last_word : length l ≤ next_from l at → place_of (word_from l at) choices ≡ last_place l at
  unfolding last_place
  last_word h = rw (le-ltb (next_from l at) (length l) h) refl

  pub row-none : length l ≤ at → none ≡ words_row l at
  unfolding words_row
  row-none h = rw (le-ltb at (length l) h) refl

  pub row-some : at < length l → named (place_of (word_from l at) names) l (word_end l at) ≡ words_row l at
  unfolding words_row
  row-some h = rw (lt-ltb at (length l) h) refl

pub named_none : (p : ℕ) (l : List ℕ) (from : ℕ) → (p ≡ 0 → ⊥) → (p ≡ 1 → ⊥) → (p ≡ 2 → ⊥) → (p ≡ 3 → ⊥) → (p ≡ 4 → ⊥) → (p ≡ 5 → ⊥) → (p ≡ 6 → ⊥) → bad ≡ named p l from
unfolding named
named_none p l from a b c d e f g = rw (ne_eqb p 0 a, ne_eqb p 1 b, ne_eqb p 2 c, ne_eqb p 3 d, ne_eqb p 4 e, ne_eqb p 5 f, ne_eqb p 6 g) refl

-- ---- a row of the code, bad or not, and its bytes
module _ {row : Row} {r : D.Row} (m : Means row r) where
  pub bad_blank : r.blank ≡ true → false ≡ is_bad row
  bad_blank e = rw (← m.is, e) refl

  pub bad_good : r.blank ≡ false → not r.good ≡ is_bad row
  bad_good e = rw (← m.is, e) (go r.good)
    where
      go : (g : Bool) → not g ≡ is_bad (cond g (said r.kind (take r.count r.numbers)) bad)
      go true = refl
      go false = refl

  pub bytes-blank : r.blank ≡ true → row_bytes row ≡ []
  bytes-blank e = rw (← m.is, e) refl

  pub bytes-bad : r.blank ≡ false → r.good ≡ false → row_bytes row ≡ []
  bytes-bad e f = rw (← m.is, e, f) refl

  pub bytes-said : r.blank ≡ false → r.good ≡ true → row_bytes row ≡ record_bytes r.kind (take r.count r.numbers)
  bytes-said e f = rw (← m.is, e, f) refl

-- ---- the lines of a text
abbrev front : List ℕ → List ℕ
front = run (is_byte 10 false)

last_some : (w : List ℕ) (b : ℕ) → final_line (w ++ b ∷ []) ≡ (w ++ b ∷ []) ∷ []
last_some [] b = refl
last_some (x ∷ w) b = refl

lines_first : (w t : List ℕ) → 0 < length t → lines_with w t ≡ (w ++ front t) ∷ lines_with [] (drop (suc (length (front t))) t)
unfolding lines_with run
lines_first w [] h = absurd (omega arith)
lines_first w (b ∷ t) h = go (eqb b 10) refl t (lines_first (w ++ b ∷ []) t)
  where
    go : (c : Bool) → eqb b 10 ≡ c → (t : List ℕ) → (0 < length t → lines_with (w ++ b ∷ []) t ≡ ((w ++ b ∷ []) ++ front t) ∷ lines_with [] (drop (suc (length (front t))) t))
        → lines_with w (b ∷ t) ≡ (w ++ front (b ∷ t)) ∷ lines_with [] (drop (suc (length (front (b ∷ t)))) (b ∷ t))
    go true e t r = rw (e, append-nil w) refl
    go false e [] r = rw e (last_some w b)
    go false e (d ∷ t) r = rw e (r (omega arith) ∙ ap (λ (l : List ℕ). l ∷ lines_with [] (drop (suc (length (front (d ∷ t)))) (d ∷ t))) (append_assoc w (b ∷ []) (front (d ∷ t))))

front-take : (l : List ℕ) → front l ≡ take (length (front l)) l
unfolding run
front-take [] = refl
front-take (b ∷ bs) = go (eqb b 10) refl (front-take bs)
  where
    go : (t : Bool) → eqb b 10 ≡ t → front bs ≡ take (length (front bs)) bs → front (b ∷ bs) ≡ take (length (front (b ∷ bs))) (b ∷ bs)
    go true e r = rw e refl
    go false e r = rw e (ap (λ (w : List ℕ). b ∷ w) r)

module _ (s : List ℕ) (at : ℕ) where
  pub rows_end : length s ≤ at → rows_of (drop at s) ≡ []
  unfolding lines_with
  rows_end h = rw (drop_of_length-le s h) refl

  pub rows_more : at < length s → rows_of (drop at s) ≡ row_of (take (line_end s at - at) (drop at s)) ∷ rows_of (drop (line_end s at + 1) s)
  unfolding end_of_run
  rows_more h =
      let l = drop at s in
      let n = length (front l) in
      let p : n ≡ at + n - at = omega arith in
      let q : suc n + at ≡ at + n + 1 = omega arith in
      let d = length-drop at s in
      ap (map row_of) (lines_first [] l (omega arith)) ∙ ap₂ ◌∷◌ (ap row_of (front-take l ∙ ap (λ (k : ℕ). take k l) p)) (ap rows_of (rest n))
    where
      rest : (n : ℕ) → drop (suc n) (drop at s) ≡ drop (at + n + 1) s
      rest n = let e : at + suc n ≡ at + n + 1 = omega arith in drop-drop (suc n) at s ∙ ap (λ (k : ℕ). drop k s) e

-- the first bad row, and the bytes, a row further
pub bad_here : (n : ℕ) (r : Row) (rs : List Row) → is_bad r ≡ true → first_bad n (r ∷ rs) ≡ n
unfolding first_bad
bad_here n r rs e = rw e refl

pub bad_later : (n : ℕ) (r : Row) (rs : List Row) → is_bad r ≡ false → first_bad n (r ∷ rs) ≡ first_bad (suc n) rs
unfolding first_bad
bad_later n r rs e = rw e refl

-- ---- how long the records are
module _ {row : Row} {r : D.Row} (m : Means row r) where
  pub length-blank : r.blank ≡ true → length (row_bytes row) ≡ 0
  length-blank e = ap length (bytes-blank m e)

  pub length-bad : r.blank ≡ false → r.good ≡ false → length (row_bytes row) ≡ 0
  length-bad e f = ap length (bytes-bad m e f)

  pub length-said : r.blank ≡ false → r.good ≡ true → length (row_bytes row) ≡ 1 + body_length r.kind
  unfolding record_bytes
  length-said e f =
      let b = length-body (fields_of r.kind) (take r.count r.numbers) (m.fits e f) in
      let k = size-kind r.kind in
      ap length (bytes-said m e f) ∙ omega arith

pub small : (k : Kind) → body_length k ≤ 20
small K.Scale = omega arith
small K.Rectangle = omega arith
small K.Ellipse = omega arith
small K.Operator = omega arith
small K.Slice = omega arith
small K.Selection = omega arith
small K.Unknown = omega arith

pub length_rest : (s : List ℕ) (at : ℕ) → length s ≤ at → length (bytes_of (rows_of (drop at s))) ≡ 0
unfolding bytes_of
length_rest s at h = rw (rows_end s at h) refl

pub length_more : (s : List ℕ) (at : ℕ) → at < length s → length (bytes_of (rows_of (drop at s))) ≡ length (row_bytes (row_of (take (line_end s at - at) (drop at s)))) + length (bytes_of (rows_of (drop (line_end s at + 1) s)))
unfolding bytes_of
length_more s at h = ap (λ (l : List Row). length (bytes_of l)) (rows_more s at h) ∙ length-append (row_bytes (row_of (take (line_end s at - at) (drop at s)))) (bytes_of (rows_of (drop (line_end s at + 1) s)))

-- ---- bytes put one by one are texts of one byte each
pub joined-singles : (l : List ℕ) → joined (singles l) ≡ l
unfolding singles
joined-singles [] = refl
joined-singles (b ∷ l) = ap (λ (x : List ℕ). b ∷ x) (joined-singles l)

pub laid-puts : (s : Slate) (l : List ℕ) → laid s l ≡ puts s (singles l)
unfolding laid puts singles
laid-puts s [] = refl
laid-puts s (b ∷ l) = laid-puts (written s.0 s.1 (b ∷ []), after s.0 s.1 (b ∷ [])) l

-- ---- one row further, and none left
pub laid_none : (xs : List ℕ) (at : ℕ) → Laid xs at [] xs at
unfolding laid
laid_none xs at = refl

pub laid-rest : (s : Slate) (bytes : List ℕ) (at : ℕ) → length bytes ≤ at → laid s (bytes_of (rows_of (drop at bytes))) ≡ s
unfolding laid bytes_of
laid-rest s bytes at h = rw (rows_end bytes at h) refl

pub laid-row : (s t : Slate) (bytes : List ℕ) (at : ℕ) → at < length bytes → t ≡ laid s (row_bytes (row_of (take (line_end bytes at - at) (drop at bytes))))
    → laid t (bytes_of (rows_of (drop (line_end bytes at + 1) bytes))) ≡ laid s (bytes_of (rows_of (drop at bytes)))
unfolding bytes_of
laid-row s t bytes at h e =
    let r = row_of (take (line_end bytes at - at) (drop at bytes)) in
    let rs = rows_of (drop (line_end bytes at + 1) bytes) in
    ap (λ (x : Slate). laid x (bytes_of rs)) e ∙ sym (laid-append s (row_bytes r) (bytes_of rs)) ∙ ap (λ (l : List Row). laid s (bytes_of l)) (sym (rows_more bytes at h))

-- ---- the whole output
module _ (xs bytes out : List ℕ) (r : ℕ) (short : length bytes ≤ 458752) (n : ℕ) (first : n ≡ first_bad 1 (rows_of bytes)) where
  pub job_records : n ≡ 0 → ltb 65536 (length (bytes_of (rows_of bytes))) ≡ false → Laid xs 0 (bytes_of (rows_of bytes)) out r → Puts (xs, 0) (job_texts bytes) (out, r) 65536
  job_records f e l =
      let t = bytes_of (rows_of bytes) in
      let w : Puts (xs, 0) (singles t) (out, r) 65536 = record { is = l ∙ laid-puts (xs, 0) t; size = rw (joined-singles t) (ltb-false 65536 (length t) e) } in
      rw (le-ltb 458752 (length bytes) short, ← first, f, e) w

  pub job_long : n ≡ 0 → ltb 65536 (length (bytes_of (rows_of bytes))) ≡ true → Puts (xs, 0) (too_long_line ∷ []) (out, r) 65536 → Puts (xs, 0) (job_texts bytes) (out, r) 65536
  job_long f e w = rw (le-ltb 458752 (length bytes) short, ← first, f, e) w

  pub job_bad : (n ≡ 0 → ⊥) → Puts (xs, 0) (number_texts (98 ∷ 97 ∷ 100 ∷ 32 ∷ 108 ∷ 105 ∷ 110 ∷ 101 ∷ []) n) (out, r) 30 → Puts (xs, 0) (job_texts bytes) (out, r) 65536
  job_bad f w = rw (le-ltb 458752 (length bytes) short, ← first, ne_eqb n 0 f) (weaken 65536 (lit≤ tt) w)
