-- A number in decimal is read again. Assumes nothing.
use Rattle.std.specs.Prelude.{◌≡◌, Bool, true, false, cond, ℕ, zero, suc, ◌+◌, ◌-◌, ◌/◌, ◌%◌, ◌≤◌, ◌<◌, eqb, leb, ℤ, pos, negsuc, length, get_or}
use Rattle.std.proofs.Math.Path.{refl}
use Rattle.std.proofs.Common.{sym, ap, ◌∙◌, div-add-mod', arith, length-append, drop_at}
use mathlib.Core.List.{List, [], ◌∷◌, ◌++◌, append_assoc, foldl-append}
use Rattle.std.proofs.Math.Decide.{dec_lt}
use Rattle.std.proofs.lemmas.List.{get_or_at}
use borrow.Author.Tests.{le-leb, lt-ltb, leb-true, ne_eqb}
use Rattle.integers_wide.specs.Meaning.{turned_if}
use Rattle.text.specs.Decimal.{decimal, signed_decimal}
use Rattle.text.proofs.Digits.{decimal-one, decimal-more, decimal-some}
use Rattle.text_scan.specs.Run.{run}
use Rattle.text_scan.specs.Number.{value, is_digit, digits_at, with_digit, value_of, fits, fitted, number_from, number_at}

-- ---- runs
unfoldable pub All : (ℕ → Bool) → List ℕ → Type 0
All p [] = Unit {0}
All p (b ∷ l) = (p b ≡ true) × All p l

-- empty, or it begins with a byte that does not pass
unfoldable pub Stops : (ℕ → Bool) → List ℕ → Type 0
Stops p [] = Unit {0}
Stops p (b ∷ l) = p b ≡ false

pub all_append : (p : ℕ → Bool) (a b : List ℕ) → All p a → All p b → All p (a ++ b)
unfolding All
all_append p [] b h k = k
all_append p (x ∷ a) b h k = (h.0, all_append p a b h.1 k)

pub run-all : (p : ℕ → Bool) (a b : List ℕ) → All p a → Stops p b → run p (a ++ b) ≡ a
unfolding run All Stops
run-all p [] [] h s = refl
run-all p [] (b ∷ l) h s = rw s refl
run-all p (x ∷ a) b h s = rw h.0 (ap (λ (l : List ℕ). x ∷ l) (run-all p a b h.1 s))

-- ---- digits
digit : (n : ℕ) → n < 10 → is_digit (48 + n) ≡ true
digit n h = rw (le-leb 48 (48 + n) (omega arith)) (le-leb (48 + n) 57 (omega arith))

digits_within : (f n : ℕ) → n < f → All is_digit (decimal n)
unfolding All
digits_within zero n h = absurd (omega arith)
digits_within (suc f) n h = elim (dec_lt n 10) [
  | yes k ↦ rw (decimal-one n k) (digit n k, tt)
  | no k ↦ rw (decimal-more n (omega arith)) (all_append is_digit (decimal (n / 10)) ((48 + n % 10) ∷ []) (digits_within f (n / 10) (omega arith)) (digit (n % 10) (omega arith), tt))
]

pub digits_all : (n : ℕ) → All is_digit (decimal n)
digits_all n = digits_within (suc n) n (omega arith)

value-within : (f n : ℕ) → n < f → value_of (decimal n) ≡ n
value-within zero n h = absurd (omega arith)
value-within (suc f) n h = elim (dec_lt n 10) [
  | yes k ↦ rw (decimal-one n k) (omega arith)
  | no k ↦
      let v = value-within f (n / 10) (omega arith) in
      let d = div-add-mod' n 10 in
      ap value_of (decimal-more n (omega arith)) ∙ foldl-append with_digit 0 (decimal (n / 10)) ((48 + n % 10) ∷ []) ∙ ap (λ (x : ℕ). with_digit x (48 + n % 10)) v ∙ omega arith
]

value-back : (n : ℕ) → value_of (decimal n) ≡ n
value-back n = value-within (suc n) n (omega arith)

-- a digit is neither a space nor a minus
pub digit_not : (b n : ℕ) → is_digit b ≡ true → n < 48 → eqb b n ≡ false
digit_not b n e h = ne_eqb b n (λ f. go (leb 48 b) refl e f)
  where
    go : (t : Bool) → leb 48 b ≡ t → cond t (leb b 57) false ≡ true → b ≡ n → ⊥
    go true g k f = let l = leb-true 48 b g in omega arith
    go false g k f = let y : ◌≡◌ {A = ℕ} 0 1 = cc in omega arith

-- ---- a number at a place
module _ (top : ℕ) (p q : List ℕ) (stops : Stops is_digit q) where
  run-digits : (n : ℕ) → digits_at (p ++ (decimal n ++ q)) (length p) ≡ decimal n
  run-digits n = ap (run is_digit) (drop_at p (decimal n ++ q) (length p) refl) ∙ run-all is_digit (decimal n) q (digits_all n) stops

  from_back : (minus : Bool) (n : ℕ) → fits top minus n ≡ true → number_from top minus (p ++ (decimal n ++ q)) (length p) ≡ value (turned_if minus (pos n)) (length p + length (decimal n))
  unfolding number_from fitted
  from_back minus n e =
      let some = decimal-some n in
      rw (run-digits n, ne_eqb (length (decimal n)) 0 (λ f. omega arith), value-back n, e) refl

first-not : (p ds q : List ℕ) → 0 < length ds → All is_digit ds → eqb (get_or (p ++ (ds ++ q)) (length p) 0) 45 ≡ false
unfolding All
first-not p [] q h a = absurd (omega arith)
first-not p (b ∷ ds) q h a = rw (get_or_at p b (ds ++ q) 0 (length p) refl) (digit_not b 45 a.0 (omega arith))

-- it has at most so many
unfoldable pub Small : ℕ → ℤ → Type 0
Small top (pos n) = n < top
Small top (negsuc n) = suc n ≤ top

pub number-back : (top : ℕ) (p q : List ℕ) (z : ℤ) → Stops is_digit q → Small top z → number_at top (p ++ (signed_decimal z ++ q)) (length p) ≡ value z (length p + length (signed_decimal z))
unfolding number_at signed_decimal fits Small
number-back top p q (pos n) s h = rw (first-not p (decimal n) q (decimal-some n) (digits_all n)) (from_back top p q s false n (lt-ltb n top h))
number-back top p q (negsuc n) s h =
    let m : List ℕ = 45 ∷ [] in
    let l : p ++ (45 ∷ (decimal (suc n) ++ q)) ≡ (p ++ m) ++ (decimal (suc n) ++ q) = sym (append_assoc p m (decimal (suc n) ++ q)) in
    let k : length p + 1 ≡ length (p ++ m) = sym (length-append p m) in
    let e : length (p ++ m) + length (decimal (suc n)) ≡ length p + suc (length (decimal (suc n))) = omega arith in
    rw (get_or_at p 45 (decimal (suc n) ++ q) 0 (length p) refl) (rw (l, k) (from_back top (p ++ m) q s true (suc n) (le-leb (suc n) top h) ∙ ap (value (negsuc n)) e))
