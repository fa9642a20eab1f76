-- The line of a record says that record. Assumes nothing.
use Rattle.std.specs.Prelude.{◌≡◌, Bool, true, false, cond, ◌⊎◌, ℕ, suc, ◌+◌, ◌-◌, ◌*◌, ◌^◌, ◌≤◌, ◌<◌, ltb, ℤ, pos, negsuc, take}
use Rattle.std.proofs.Math.Path.{refl, ap}
use Rattle.std.proofs.Common.{sym, ◌∙◌, inl, inr, lt_of_lt_of_le, take_at}
use mathlib.Core.List.{List, [], ◌∷◌, ◌++◌, append-nil}
use Rattle.std.proofs.Math.Nat.{pow-le-pow_right}
use native.Mathlib.Omega.{arith}
use Rattle.std.proofs.Math.ListN.{length, length-append}
use Rattle.std.proofs.Math.Seq.{take_all}
use borrow.Author.Tests.{lt-ltb, ltb-true}
use Rattle.record_kinds.specs.declared.Kind.{Kind}
use Rattle.record_kinds.specs.declared.Kind.TheVariants as K
use Rattle.text.specs.Decimal.{decimal, signed_decimal}
use Rattle.record_forms.specs.declared.Field.{Field}
use Rattle.record_forms.specs.Forms.{fields_of, takes, takes_all}
use Rattle.text_scan.specs.Run.{run, end_of_run, is_byte, spaces_from, word_end}
use Rattle.text_scan.specs.Number.{is_digit}
use Rattle.text_words.specs.Names.{is_name, place_of}
use Rattle.text_words.specs.Bytes.{word_from}
use Rattle.text_words.specs.Numbers.{numbers_from}
use Rattle.job_words.specs.Rows.{said, fitted, numbered, choice_of, last_place, selection, names, named, words_row, bare, row_of}
use Rattle.job_record_lines.specs.Digits.{All, Stops, all_append, run-all, digits_all, digit_not, Small}
use Rattle.record_text.specs.Lines.{numbers_text, name_of, selection_text, rest_text, line_of}
use Rattle.job_record_lines.specs.Back.{AllSmall, numbers-back}

-- ---- the bytes of a line
all-run : (p : ℕ → Bool) (l : List ℕ) → All p l → run p l ≡ l
unfolding Stops
all-run p l h = ap (run p) (sym (append-nil l)) ∙ run-all p l [] h tt

all_digits : (p : ℕ → Bool) → ((b : ℕ) → is_digit b ≡ true → p b ≡ true) → (l : List ℕ) → All is_digit l → All p l
unfolding All
all_digits p f [] h = tt
all_digits p f (b ∷ l) h = (f b h.0, all_digits p f l h.1)

pub text-all : (p : ℕ → Bool) → p 32 ≡ true → p 45 ≡ true → ((b : ℕ) → is_digit b ≡ true → p b ≡ true) → (zs : List ℤ) → All p (numbers_text zs)
unfolding All numbers_text signed_decimal
text-all p s m f [] = tt
text-all p s m f (pos n ∷ zs) = (s, all_append p (decimal n) (numbers_text zs) (all_digits p f (decimal n) (digits_all n)) (text-all p s m f zs))
text-all p s m f (negsuc n ∷ zs) = (s, (m, all_append p (decimal (suc n)) (numbers_text zs) (all_digits p f (decimal (suc n)) (digits_all (suc n))) (text-all p s m f zs)))

pub not_byte : (n : ℕ) → n < 48 → (b : ℕ) → is_digit b ≡ true → is_byte n false b ≡ true
not_byte n h b e = rw (digit_not b n e h) refl

-- ---- a line by its first word
module _ (name rest : List ℕ) (some : 0 < length name) (begins : Stops (is_byte 32 true) name) (one : All (is_byte 32 false) name) (ends : Stops (is_byte 32 false) rest) (plain : All (is_byte 35 false) (name ++ rest)) where
  abbrev line : List ℕ
  line = name ++ rest

  bare-is : bare line ≡ line
  unfolding bare end_of_run
  bare-is = take_all (0 + length (run (is_byte 35 false) line)) line (rw (all-run (is_byte 35 false) line plain) (omega arith))

  first : (n r : List ℕ) → 0 < length n → Stops (is_byte 32 true) n → run (is_byte 32 true) (n ++ r) ≡ []
  unfolding Stops run
  first [] r h s = absurd (omega arith)
  first (b ∷ n) r h s = rw s refl

  start : spaces_from line 0 ≡ 0
  unfolding end_of_run
  start = ap (λ (l : List ℕ). 0 + length l) (first name rest some begins)

  end : word_end line 0 ≡ length name
  unfolding end_of_run
  end = ap (λ (l : List ℕ). 0 + length l) (run-all (is_byte 32 false) name rest one ends) ∙ omega arith

  word : word_from line 0 ≡ name
  word = let e : word_end line 0 - 0 ≡ length name = (let e = end in omega arith) in ap (λ (k : ℕ). take k line) e ∙ take_at name rest (length name) refl

  pub row_named : row_of line ≡ named (place_of name names) line (length name)
  unfolding row_of words_row
  row_named = let n = length-append name rest in rw (bare-is, start, lt-ltb 0 (length line) (omega arith), word, end) refl

-- ---- numbers that have room in fields of at most four bytes
unfoldable Short : List Field → Type 0
Short [] = Unit {0}
Short (f ∷ fs) = (f.size ≤ 4) × Short fs

short : (k : Kind) → Short (fields_of k)
unfolding Short fields_of
short K.Scale = (omega arith, tt)
short K.Rectangle = (omega arith, (omega arith, (omega arith, (omega arith, (omega arith, tt)))))
short K.Ellipse = (omega arith, (omega arith, (omega arith, (omega arith, (omega arith, (omega arith, (omega arith, tt)))))))
short K.Operator = (omega arith, (omega arith, (omega arith, (omega arith, (omega arith, (omega arith, (omega arith, (omega arith, tt))))))))
short K.Slice = (omega arith, (omega arith, (omega arith, (omega arith, tt))))
short K.Selection = (omega arith, tt)
short K.Unknown = tt

never : {P : Type 0} → false ≡ true → P
never e = absurd (let y : ◌≡◌ {A = ℕ} 0 1 = cc in omega arith)

room : (b : Bool) (n size : ℕ) → size ≤ 4 → n < cond b (2 ^ (8 * size - 1)) (2 ^ (8 * size)) → n < 2 ^ 63
room true n size h k = lt_of_lt_of_le k (pow-le-pow_right {n = 2} (omega arith) {i = 8 * size - 1} {j = 63} (omega arith))
room false n size h k = lt_of_lt_of_le k (pow-le-pow_right {n = 2} (omega arith) {i = 8 * size} {j = 63} (omega arith))

small-field : (f : Field) (z : ℤ) → f.size ≤ 4 → takes f z ≡ true → Small (2 ^ 63) z
unfolding takes Small
small-field f (pos n) h e = room f.signed n f.size h (ltb-true n _ e)
small-field f (negsuc n) h e = go f.signed e
  where
    go : (b : Bool) → cond b (ltb n (2 ^ (8 * f.size - 1))) false ≡ true → suc n ≤ 2 ^ 63
    go true g = room true n f.size h (ltb-true n _ g)
    go false g = never g

all_small : (fs : List Field) (zs : List ℤ) → Short fs → takes_all fs zs ≡ true → AllSmall zs × (length zs ≡ length fs)
unfolding takes_all AllSmall Short
all_small [] [] s e = (tt, refl)
all_small [] (z ∷ zs) s e = never e
all_small (f ∷ fs) [] s e = never e
all_small (f ∷ fs) (z ∷ zs) s e = go (takes f z) refl e (all_small fs zs s.1)
  where
    go : (b : Bool) → takes f z ≡ b → cond b (takes_all fs zs) false ≡ true → (takes_all fs zs ≡ true → AllSmall zs × (length zs ≡ length fs)) → (Small (2 ^ 63) z × AllSmall zs) × (suc (length zs) ≡ suc (length fs))
    go true g k r = let (a, n) = r k in ((small-field f z s.0 g, a), ap suc n)
    go false g k r = never k

few : (k : Kind) → length (fields_of k) ≤ 16
unfolding fields_of
few K.Scale = omega arith
few K.Rectangle = omega arith
few K.Ellipse = omega arith
few K.Operator = omega arith
few K.Slice = omega arith
few K.Selection = omega arith
few K.Unknown = omega arith

text-ends : (zs : List ℤ) → Stops (is_byte 32 false) (numbers_text zs)
unfolding Stops numbers_text
text-ends [] = tt
text-ends (z ∷ zs) = refl

-- ---- the line of a record says it
module _ (k : Kind) (zs : List ℤ) (fit : takes_all (fields_of k) zs ≡ true) (name : List ℕ) (kind : (l : List ℕ) (from : ℕ) → named (place_of name names) l from ≡ numbered k (numbers_from l from)) where
  row-numbered : 0 < length name → Stops (is_byte 32 true) name → All (is_byte 32 false) name → All (is_byte 35 false) name → row_of (name ++ numbers_text zs) ≡ said k zs
  unfolding fitted
  row-numbered some begins one plain =
      let (a, n) = all_small (fields_of k) zs (short k) fit in
      let f = few k in
      row_named name (numbers_text zs) some begins one (text-ends zs) (all_append (is_byte 35 false) name (numbers_text zs) plain (text-all (is_byte 35 false) refl refl (not_byte 35 (omega arith)) zs))
      ∙ kind (name ++ numbers_text zs) (length name) ∙ ap (numbered k) (numbers-back name zs (omega arith) a) ∙ rw fit refl

-- `selection new` and `selection all`
new_back : row_of (line_of K.Selection (pos 0 ∷ [])) ≡ said K.Selection (pos 0 ∷ [])
unfolding selection_text named place_of is_name selection choice_of last_place end_of_run run fitted takes_all takes fields_of Stops All
new_back = row_named (name_of K.Selection) (rest_text K.Selection (pos 0 ∷ [])) (omega arith) refl (refl, (refl, (refl, (refl, (refl, (refl, (refl, (refl, (refl, tt))))))))) refl (refl, (refl, (refl, (refl, (refl, (refl, (refl, (refl, (refl, (refl, (refl, (refl, (refl, tt)))))))))))))

all_back : row_of (line_of K.Selection (pos 1 ∷ [])) ≡ said K.Selection (pos 1 ∷ [])
unfolding selection_text named place_of is_name selection choice_of last_place end_of_run run fitted takes_all takes fields_of Stops All
all_back = row_named (name_of K.Selection) (rest_text K.Selection (pos 1 ∷ [])) (omega arith) refl (refl, (refl, (refl, (refl, (refl, (refl, (refl, (refl, (refl, tt))))))))) refl (refl, (refl, (refl, (refl, (refl, (refl, (refl, (refl, (refl, (refl, (refl, (refl, (refl, tt)))))))))))))

-- the numbers of a selection that is a selection
abbrev pub Chosen : Kind → List ℤ → Type 0
Chosen K.Scale zs = Unit {0}
Chosen K.Rectangle zs = Unit {0}
Chosen K.Ellipse zs = Unit {0}
Chosen K.Operator zs = Unit {0}
Chosen K.Slice zs = Unit {0}
Chosen K.Selection zs = (zs ≡ pos 0 ∷ []) ⊎ (zs ≡ pos 1 ∷ [])
Chosen K.Unknown zs = ⊥

pub row_back : (k : Kind) (zs : List ℤ) → Chosen k zs → takes_all (fields_of k) zs ≡ true → row_of (line_of k zs) ≡ said k zs
unfolding named place_of is_name Stops All
row_back K.Scale zs c fit = row-numbered K.Scale zs fit (name_of K.Scale) (λ l from. refl) (omega arith) refl (refl, (refl, (refl, (refl, (refl, tt))))) (refl, (refl, (refl, (refl, (refl, tt)))))
row_back K.Rectangle zs c fit = row-numbered K.Rectangle zs fit (name_of K.Rectangle) (λ l from. refl) (omega arith) refl (refl, (refl, (refl, (refl, (refl, (refl, (refl, (refl, (refl, tt))))))))) (refl, (refl, (refl, (refl, (refl, (refl, (refl, (refl, (refl, tt)))))))))
row_back K.Ellipse zs c fit = row-numbered K.Ellipse zs fit (name_of K.Ellipse) (λ l from. refl) (omega arith) refl (refl, (refl, (refl, (refl, (refl, (refl, (refl, tt))))))) (refl, (refl, (refl, (refl, (refl, (refl, (refl, tt)))))))
row_back K.Operator zs c fit = row-numbered K.Operator zs fit (name_of K.Operator) (λ l from. refl) (omega arith) refl (refl, (refl, (refl, (refl, (refl, (refl, (refl, (refl, tt)))))))) (refl, (refl, (refl, (refl, (refl, (refl, (refl, (refl, tt))))))))
row_back K.Slice zs c fit = row-numbered K.Slice zs fit (name_of K.Slice) (λ l from. refl) (omega arith) refl (refl, (refl, (refl, (refl, (refl, tt))))) (refl, (refl, (refl, (refl, (refl, tt)))))
row_back K.Selection zs (inl e) fit = rw e new_back
row_back K.Selection zs (inr e) fit = rw e all_back
row_back K.Unknown zs c fit = absurd c
