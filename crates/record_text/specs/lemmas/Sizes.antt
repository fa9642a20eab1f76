-- How long the text is that says records: at most seven times as many bytes as they have. Assumes nothing.
use Rattle.std.specs.Prelude.{◌≡◌, refl, Bool, true, false, cond, List, [], ◌∷◌, ◌++◌, ℕ, zero, suc, ◌+◌, ◌-◌, ◌*◌, ◌^◌, ◌≤◌, ◌<◌, ltb, ℤ, pos, negsuc, length, drop}
use Rattle.std.proofs.Common.{sym, ap, ◌∙◌, pow-suc, lt_of_lt_of_le, arith, length-append, length-drop, pow-add, get_or-drop, ltb-true}
use Rattle.std.proofs.Math.Nat.{two-pow-succ}
use Rattle.record_kinds.specs.declared.Kind.{Kind}
use Rattle.record_kinds.specs.declared.Kind.TheVariants as K
use Rattle.record_kinds.specs.Kinds.{kind_of, body_length}
use Rattle.record_forms.specs.declared.Field.{Field}
use Rattle.record_forms.specs.Forms.{fields_of, takes, takes_all, numbers_at}
use Rattle.record_forms.specs.Back.{Bytes, size_of, bits-bytes, all-taken, sized, size-kind}
use Rattle.text.specs.Decimal.{decimal, signed_decimal}
use Rattle.text.proofs.Lengths.{decimal-length}
use Rattle.text_puts.specs.Puts.{joined}
use Rattle.record_text.specs.Lines.{numbers_text, equals_one, selection_text, line_of, text_of}
use Rattle.record_text.specs.Texts.{joined-texts}
use Rattle.record_text.specs.Records.{is_whole, records_in, shown_texts, never, whole_long}

digits : (s : ℕ) → 256 ^ s ≤ 10 ^ (3 * s)
digits zero = omega arith
digits (suc s) =
    let e : 3 * suc s ≡ 3 * s + 3 = omega arith in
    let p : 10 ^ (3 * suc s) ≡ 10 ^ (3 * s) * 1000 = ap (λ (k : ℕ). 10 ^ k) e ∙ pow-add 10 (3 * s) 3 in
    let q = pow-suc 256 s in
    let h = digits s in
    omega arith

decimal-room : (s n : ℕ) → 0 < s → n < 256 ^ s → length (decimal n) ≤ 3 * s
decimal-room s n some h =
    let e : 3 * s ≡ suc (3 * s - 1) = omega arith in
    rw (← e) at (decimal-length (3 * s - 1) n (rw (← e) (lt_of_lt_of_le h (digits s))))

-- a field has at most four times as many bytes of text, with a space, as it has bytes: there is none of one byte that is signed
abbrev Wide : Field → Type 0
Wide f = cond f.signed 2 1 ≤ f.size

half : (s : ℕ) → 0 < s → 2 ^ (8 * s - 1) + 2 ^ (8 * s - 1) ≡ 256 ^ s
half s some = let e : 8 * s ≡ suc (8 * s - 1) = omega arith in sym (two-pow-succ (8 * s - 1)) ∙ ap (λ (b : ℕ). 2 ^ b) (sym e) ∙ bits-bytes s

number_size : (f : Field) (z : ℤ) → Wide f → takes f z ≡ true → suc (length (signed_decimal z)) ≤ 4 * f.size
unfolding takes signed_decimal
number_size f (pos n) w h = go f.signed w h
  where
    go : (b : Bool) → cond b 2 1 ≤ f.size → ltb n (cond b (2 ^ (8 * f.size - 1)) (2 ^ (8 * f.size))) ≡ true → suc (length (decimal n)) ≤ 4 * f.size
    go true w h = let k = ltb-true n _ h in let e = half f.size (omega arith) in let d = decimal-room f.size n (omega arith) (omega arith) in omega arith
    go false w h = let k = ltb-true n _ h in let d = decimal-room f.size n (omega arith) (rw bits-bytes at k) in omega arith
number_size f (negsuc n) w h = go f.signed w h
  where
    go : (b : Bool) → cond b 2 1 ≤ f.size → cond b (ltb n (2 ^ (8 * f.size - 1))) false ≡ true → suc (suc (length (decimal (suc n)))) ≤ 4 * f.size
    go true w h = let k = ltb-true n _ h in let e = half f.size (omega arith) in let d = decimal-room f.size (suc n) (omega arith) (omega arith) in omega arith
    go false w h = never h

unfoldable AllWide : List Field → Type 0
AllWide [] = Unit {0}
AllWide (f ∷ fs) = Wide f × AllWide fs

numbers-size : (fs : List Field) (zs : List ℤ) → AllWide fs → takes_all fs zs ≡ true → length (numbers_text zs) ≤ 4 * size_of fs
unfolding AllWide takes_all numbers_text size_of
numbers-size [] [] w h = omega arith
numbers-size [] (z ∷ zs) w h = never h
numbers-size (f ∷ fs) [] w h = never h
numbers-size (f ∷ fs) (z ∷ zs) w h = go (takes f z) refl h (numbers-size fs zs w.1)
  where
    go : (b : Bool) → takes f z ≡ b → cond b (takes_all fs zs) false ≡ true → (takes_all fs zs ≡ true → length (numbers_text zs) ≤ 4 * size_of fs) → suc (length (signed_decimal z ++ numbers_text zs)) ≤ 4 * (f.size + size_of fs)
    go true e k r = let a = number_size f z w.0 e in let b = r k in let n = length-append (signed_decimal z) (numbers_text zs) in omega arith
    go false e k r = never k

wide : (k : Kind) → AllWide (fields_of k)
unfolding AllWide fields_of
wide K.Scale = (omega arith, tt)
wide K.Rectangle = (omega arith, (omega arith, (omega arith, (omega arith, (omega arith, tt)))))
wide K.Ellipse = (omega arith, (omega arith, (omega arith, (omega arith, (omega arith, (omega arith, (omega arith, tt)))))))
wide K.Operator = (omega arith, (omega arith, (omega arith, (omega arith, (omega arith, (omega arith, (omega arith, (omega arith, tt))))))))
wide K.Slice = (omega arith, (omega arith, (omega arith, (omega arith, tt))))
wide K.Selection = (omega arith, tt)
wide K.Unknown = tt

selection-size : (zs : List ℤ) → length (numbers_text zs) ≤ 4 → length (selection_text zs) ≤ 4
unfolding selection_text
selection-size zs h = go (equals_one 0 zs) (equals_one 1 zs)
  where
    go : (b c : Bool) → length (cond b (32 ∷ 110 ∷ 101 ∷ 119 ∷ []) (cond c (32 ∷ 97 ∷ 108 ∷ 108 ∷ []) (numbers_text zs))) ≤ 4
    go true c = omega arith
    go false true = omega arith
    go false false = h

line-size : (k : Kind) (zs : List ℤ) → takes_all (fields_of k) zs ≡ true → suc (length (line_of k zs)) ≤ 7 * suc (body_length k)
unfolding fields_of size_of
line-size K.Scale zs h = let n = numbers-size (fields_of K.Scale) zs (wide K.Scale) h in omega arith
line-size K.Rectangle zs h = let n = numbers-size (fields_of K.Rectangle) zs (wide K.Rectangle) h in omega arith
line-size K.Ellipse zs h = let n = numbers-size (fields_of K.Ellipse) zs (wide K.Ellipse) h in omega arith
line-size K.Operator zs h = let n = numbers-size (fields_of K.Operator) zs (wide K.Operator) h in omega arith
line-size K.Slice zs h = let n = numbers-size (fields_of K.Slice) zs (wide K.Slice) h in omega arith
line-size K.Selection zs h = let n = selection-size zs (numbers-size (fields_of K.Selection) zs (wide K.Selection) h) in omega arith
line-size K.Unknown zs h = omega arith

-- ---- the text of the records at the front of bytes
pub bytes_drop : (n : ℕ) (s : List ℕ) → Bytes s → Bytes (drop n s)
bytes_drop n s h j = rw (get_or-drop n s j 0) (h (n + j))

pub records-size : (most : ℕ) (s : List ℕ) → Bytes s → length (text_of (records_in most s)) ≤ 7 * length s
unfolding records_in text_of
records-size zero s h = omega arith
records-size (suc most) [] h = omega arith
records-size (suc most) (b ∷ s) h = go (is_whole k (length s)) refl (records-size most (drop (body_length k) s) (bytes_drop (body_length k) s tail))
  where
    k : Kind
    k = kind_of b

    tail : Bytes s
    tail j = h (suc j)

    rest : List (Kind × List ℤ)
    rest = records_in most (drop (body_length k) s)

    go : (w : Bool) → is_whole k (length s) ≡ w → length (text_of rest) ≤ 7 * length (drop (body_length k) s) → length (text_of (cond w ((k, numbers_at (fields_of k) s 0) ∷ rest) [])) ≤ 7 * suc (length s)
    go true e r =
        let zs = numbers_at (fields_of k) s 0 in
        let l = whole_long k (length s) e in
        let m = size-kind k in
        let a = line-size k zs (all-taken s tail (fields_of k) 0 (sized k) (omega arith)) in
        let d = length-drop (body_length k) s in
        let n = length-append (line_of k zs) (10 ∷ text_of rest) in
        omega arith
    go false e r = omega arith

pub shown-size : (s : List ℕ) → Bytes s → length (joined (shown_texts s)) ≤ 7 * length s
shown-size s h = rw (joined-texts (records_in (length s) s)) (records-size (length s) s h)
