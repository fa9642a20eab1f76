-- The numbers of a line are read again. Assumes nothing.
use Rattle.std.specs.Prelude.{◌≡◌, refl, true, List, [], ◌∷◌, ◌++◌, ℕ, zero, suc, ◌+◌, ◌-◌, ◌^◌, ◌≤◌, ◌<◌, ℤ, pos, negsuc, length}
use Rattle.std.proofs.Common.{sym, ◌∙◌, append_assoc, append-nil, arith, le_of_eq, length-append, drop_at, lt-ltb, le-ltb}
use Rattle.std.proofs.lemmas.List.{get_or_at}
use Rattle.text.specs.Decimal.{decimal, signed_decimal}
use Rattle.text.proofs.Digits.{decimal-some}
use Rattle.text_scan.specs.Run.{run, end_of_run, is_byte, spaces_from}
use Rattle.text_scan.specs.Number.{value, is_digit}
use Rattle.text_words.specs.Numbers.{leading, numbers, ends_word, word_at, leading_with, leading_from, numbers_from, leading_end, leading-more}
use Rattle.job_record_lines.specs.Digits.{All, Stops, run-all, digits_all, digit_not, Small, number-back}
use Rattle.record_text.specs.Lines.{numbers_text}

unfoldable pub AllSmall : List ℤ → Type 0
AllSmall [] = Unit {0}
AllSmall (z ∷ zs) = Small (2 ^ 63) z × AllSmall zs

text-stops : (zs : List ℤ) → Stops is_digit (numbers_text zs)
unfolding Stops numbers_text
text-stops [] = tt
text-stops (z ∷ zs) = refl

-- a number begins with no space
digits_start : (ds q : List ℕ) → 0 < length ds → All is_digit ds → Stops (is_byte 32 true) (ds ++ q)
unfolding All Stops
digits_start [] q h a = absurd (omega arith)
digits_start (b ∷ ds) q h a = digit_not b 32 a.0 (omega arith)

number-start : (z : ℤ) (q : List ℕ) → Stops (is_byte 32 true) (signed_decimal z ++ q)
unfolding signed_decimal Stops
number-start (pos n) q = digits_start (decimal n) q (decimal-some n) (digits_all n)
number-start (negsuc n) q = refl

number-some : (z : ℤ) → 0 < length (signed_decimal z)
unfolding signed_decimal
number-some (pos n) = decimal-some n
number-some (negsuc n) = omega arith

-- the spaces behind a place
spaces-none : (p : List ℕ) → spaces_from (p ++ []) (length p) ≡ length p
unfolding end_of_run run
spaces-none p = rw (drop_at p [] (length p) refl) (omega arith)

spaces-one : (p r : List ℕ) → Stops (is_byte 32 true) r → spaces_from (p ++ (32 ∷ r)) (length p) ≡ length p + 1
unfolding end_of_run All
spaces-one p r s = rw (drop_at p (32 ∷ r) (length p) refl, run-all (is_byte 32 true) (32 ∷ []) r (refl, tt) s) refl

ends : (p : List ℕ) (zs : List ℤ) → ends_word (p ++ numbers_text zs) (length p) ≡ true
unfolding ends_word numbers_text
ends p [] = rw (append-nil p, le-ltb (length p) (length p) (le_of_eq refl)) refl
ends p (z ∷ zs) =
    let r = signed_decimal z ++ numbers_text zs in
    let n = length-append p (32 ∷ r) in
    rw (lt-ltb (length p) (length (p ++ (32 ∷ r))) (omega arith), get_or_at p 32 r 0 (length p) refl) refl

word_back : (p : List ℕ) (z : ℤ) (zs : List ℤ) → Small (2 ^ 63) z → word_at (2 ^ 63) (p ++ (signed_decimal z ++ numbers_text zs)) (length p)
    ≡ value z (spaces_from ((p ++ signed_decimal z) ++ numbers_text zs) (length (p ++ signed_decimal z)))
unfolding word_at
word_back p z zs h =
    let d = signed_decimal z in
    let q = numbers_text zs in
    let l : p ++ (d ++ q) ≡ (p ++ d) ++ q = sym (append_assoc p d q) in
    let k : length p + length d ≡ length (p ++ d) = sym (length-append p d) in
    rw (number-back (2 ^ 63) p q z (text-stops zs) h, l, k, ends (p ++ d) zs) refl

pub leading-back : (m : ℕ) (zs : List ℤ) (p : List ℕ) (ns : List ℤ) → length zs ≤ m → AllSmall zs
    → leading_with m (p ++ numbers_text zs) (spaces_from (p ++ numbers_text zs) (length p)) ns ≡ leading (ns ++ zs) (length (p ++ numbers_text zs))
unfolding numbers_text AllSmall
leading-back m [] p ns h s = rw (spaces-none p, append-nil ns, append-nil p) (leading_end m p (length p) ns (le_of_eq refl))
leading-back zero (z ∷ zs) p ns h s = absurd (omega arith)
leading-back (suc m) (z ∷ zs) p ns h s =
    let d = signed_decimal z in
    let q = numbers_text zs in
    let o : List ℕ = p ++ (32 ∷ []) in
    let l : p ++ (32 ∷ (d ++ q)) ≡ o ++ (d ++ q) = sym (append_assoc p (32 ∷ []) (d ++ q)) in
    let k : length p + 1 ≡ length o = sym (length-append p (32 ∷ [])) in
    let t : o ++ (d ++ q) ≡ (o ++ d) ++ q = sym (append_assoc o d q) in
    let n = length-append o (d ++ q) in
    let f = length-append d q in
    let g = number-some z in
    rw (spaces-one p (d ++ q) (number-start z q), l, k)
    (leading-more (suc m) (o ++ (d ++ q)) (length o) ns (omega arith) m z (spaces_from ((o ++ d) ++ q) (length (o ++ d))) refl (word_back o z zs s.0)
    ∙ rw t (leading-back m zs (o ++ d) (ns ++ (z ∷ [])) (omega arith) s.1 ∙ rw (append_assoc ns (z ∷ []) zs) refl))

-- at most 16 numbers behind a name, and nothing else
pub numbers-back : (name : List ℕ) (zs : List ℤ) → length zs ≤ 16 → AllSmall zs → numbers_from (name ++ numbers_text zs) (length name) ≡ numbers zs
unfolding numbers_from leading_from
numbers-back name zs h s = rw (leading-back 16 zs name [] h s, le-ltb (length (name ++ numbers_text zs)) (length (name ++ numbers_text zs)) (le_of_eq refl)) refl
