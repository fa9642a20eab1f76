-- Hexadecimal digits and the bytes that pairs of them spell. Assumes nothing.
use Rattle.std.specs.Prelude.{Some, None}
use Prim.Native.Nat.{ℕ, zero, suc, ◌+◌, ◌-◌, ◌*◌, ◌/◌, ◌%◌, ◌≤◌, ◌<◌}
use mathlib.Core.Path.{◌≡◌, refl, ap, ◌∙◌}
use mathlib.Core.Bool.{Bool, true, false, cond}
use mathlib.Core.List.{List, [], ◌∷◌, ◌++◌}
use native.Mathlib.Nat.{le_of_eq}
use native.Mathlib.Numerals.{add-one}
use native.Mathlib.Omega.{arith}
use borrow.Author.Tests.{le-leb, lt-leb, lt-ltb, le-ltb, ltb-true, eqb-true, eq-eqb, ne_eqb}
use lib.Dec.{ltb, eqb}
use lib.ListN.{length, get_or, drop, set, drop_of_length-le}
use lib.Seq.{drop-cons, paste, paste-suc, take_all}
use Rattle.text_hex.specs.Hex.{digit_of, all_hex, pairs, is_hex, hex_of, hex_written}
use Rattle.text.proofs.Writing.{put-fits, put-not}

-- ---- one digit
module _ (b : ℕ) where
  pub digit-decimal : 48 ≤ b → b ≤ 57 → b - 48 ≡ digit_of b
  unfolding digit_of
  digit-decimal h k = rw (le-leb 48 b h, le-leb b 57 k) refl

  pub digit-upper : 65 ≤ b → b ≤ 70 → b - 55 ≡ digit_of b
  unfolding digit_of
  digit-upper h k = rw (le-leb 48 b (omega arith), lt-leb b 57 (omega arith), le-leb 65 b h, le-leb b 70 k) refl

  pub digit-lower : 97 ≤ b → b ≤ 102 → b - 87 ≡ digit_of b
  unfolding digit_of
  digit-lower h k =
      rw (le-leb 48 b (omega arith), lt-leb b 57 (omega arith), le-leb 65 b (omega arith), lt-leb b 70 (omega arith), le-leb 97 b h, le-leb b 102 k) refl

  -- the four gaps
  pub digit-none-1 : b < 48 → 16 ≡ digit_of b
  unfolding digit_of
  digit-none-1 h = rw (lt-leb 48 b h, lt-leb 65 b (omega arith), lt-leb 97 b (omega arith)) refl

  pub digit-none-2 : 57 < b → b < 65 → 16 ≡ digit_of b
  unfolding digit_of
  digit-none-2 g h = rw (le-leb 48 b (omega arith), lt-leb b 57 g, lt-leb 65 b h, lt-leb 97 b (omega arith)) refl

  pub digit-none-3 : 70 < b → b < 97 → 16 ≡ digit_of b
  unfolding digit_of
  digit-none-3 g h = rw (le-leb 48 b (omega arith), lt-leb b 57 (omega arith), le-leb 65 b (omega arith), lt-leb b 70 g, lt-leb 97 b h) refl

  pub digit-none-4 : 102 < b → 16 ≡ digit_of b
  unfolding digit_of
  digit-none-4 g =
      rw (le-leb 48 b (omega arith), lt-leb b 57 (omega arith), le-leb 65 b (omega arith), lt-leb b 70 (omega arith), le-leb 97 b (omega arith), lt-leb b 102 g) refl

-- ---- all digits, from a place on
module _ (w : List ℕ) (i : ℕ) where
  pub all_end : length w ≤ i → all_hex (drop i w) ≡ true
  unfolding all_hex
  all_end h = ap all_hex (drop_of_length-le w h)

  pub all-not : i < length w → 16 ≤ digit_of (get_or w i 0) → all_hex (drop i w) ≡ false
  unfolding all_hex
  all-not h k = ap all_hex (drop-cons w i 0 h) ∙ simp (le-ltb (digit_of (get_or w i 0)) 16 k)

  pub all_more : i < length w → digit_of (get_or w i 0) < 16 → all_hex (drop i w) ≡ all_hex (drop (i + 1) w)
  unfolding all_hex
  all_more h k = ap all_hex (drop-cons w i 0 h) ∙ simp (lt-ltb (digit_of (get_or w i 0)) 16 k, add-one)

cond_both : (a b : Bool) → cond a b false ≡ true → (a ≡ true) × (b ≡ true)
cond_both true b e = (refl, e)
cond_both false b e = absurd (let z : ◌≡◌ {A = ℕ} 0 1 = cc in omega arith)

pub all-each : (w : List ℕ) → all_hex w ≡ true → (i : ℕ) → i < length w → digit_of (get_or w i 0) < 16
unfolding all_hex
all-each [] e i h = absurd (omega arith)
all-each (b ∷ w) e zero h = ltb-true _ _ (cond_both (ltb (digit_of b) 16) (all_hex w) e).0
all-each (b ∷ w) e (suc i) h = all-each w (cond_both (ltb (digit_of b) 16) (all_hex w) e).1 i (omega arith)

pub hex_even : (w : List ℕ) → is_hex w ≡ true → (length w % 2 ≡ 0) × (all_hex w ≡ true)
unfolding is_hex
hex_even w e = let b = cond_both (eqb (length w % 2) 0) (all_hex w) e in (eqb-true _ _ b.0, b.1)

-- ---- pairs
pub length_pairs : (w : List ℕ) → length (pairs w) ≡ length w / 2
unfolding pairs
length_pairs [] = refl
length_pairs (a ∷ []) = refl
length_pairs (a ∷ b ∷ w) = let e = length_pairs w in omega arith

pub pair-at : (w : List ℕ) (i : ℕ) → 2 * i + 1 < length w → get_or (pairs w) i 0 ≡ digit_of (get_or w (2 * i) 0) * 16 + digit_of (get_or w (2 * i + 1) 0)
unfolding pairs
pair-at [] i h = absurd (omega arith)
pair-at (a ∷ []) i h = absurd (omega arith)
pair-at (a ∷ b ∷ w) zero h = refl
pair-at (a ∷ b ∷ w) (suc i) h =
    let e : 2 * suc i ≡ suc (suc (2 * i)) = omega arith in
    let f : suc (suc (2 * i)) + 1 ≡ suc (suc (2 * i + 1)) = omega arith in
    rw (e, f) (pair-at w i (omega arith))

-- ---- pairs put at the start of a list
module _ (w out : List ℕ) (room : length w / 2 ≤ length out) where
  pub put-more : (i x y : ℕ) (l : List ℕ) → i < length w / 2 → l ≡ paste out 0 (pairs w) i → x ≡ digit_of (get_or w (2 * i) 0) → y ≡ digit_of (get_or w (2 * i + 1) 0)
      → set l i (x * 16 + y) ≡ paste out 0 (pairs w) (i + 1)
  put-more i x y l h p a b =
      let n = length_pairs w in
      let z : i ≡ 0 + i = omega arith in
      rw (a, b, p, ← pair-at w i (omega arith), add-one)
      (ap (λ (k : ℕ). set (paste out 0 (pairs w) i) k (get_or (pairs w) i 0)) z ∙ paste-suc out 0 (pairs w) i 0 (omega arith) (omega arith))

  pub put_all : (i : ℕ) (l : List ℕ) → i ≡ length w / 2 → l ≡ paste out 0 (pairs w) i → l ≡ pairs w ++ drop (length w / 2) out
  put_all i l e p =
      let z : 0 + length w / 2 ≡ length w / 2 = omega arith in
      p ∙ rw (e, z, take_all (length w / 2) (pairs w) (le_of_eq (length_pairs w)))

-- ---- the answer, by the code's tests
module _ (w out : List ℕ) where
  pub is_even : length w % 2 ≡ 0 → all_hex w ≡ is_hex w
  unfolding is_hex
  is_even e = rw (eq-eqb (length w % 2) 0 e) refl

  pub is_odd : (length w % 2 ≡ 0 → ⊥) → false ≡ is_hex w
  unfolding is_hex
  is_odd e = rw (ne_eqb (length w % 2) 0 e) refl

  pub unhex_bad : is_hex w ≡ false → (None ≡ hex_of w (length out)) × (out ≡ hex_written w out)
  unfolding hex_of hex_written
  unhex_bad e = (rw e refl, rw e refl)

  pub unhex_full : is_hex w ≡ true → length out < length w / 2 → (None ≡ hex_of w (length out)) × (out ≡ hex_written w out)
  unfolding hex_of hex_written
  unhex_full e h =
      let n : length out < 0 + length (pairs w) = rw (length_pairs w) (omega arith) in
      (rw (e, lt-leb (length w / 2) (length out) h) refl, rw e (put-not out 0 (pairs w) n).0)

  pub unhex_good : is_hex w ≡ true → length w / 2 ≤ length out → (Some (length w / 2) ≡ hex_of w (length out)) × (pairs w ++ drop (length w / 2) out ≡ hex_written w out)
  unfolding hex_of hex_written
  unhex_good e h =
      let z : 0 + length (pairs w) ≡ length w / 2 = omega (arith, length_pairs w) in
      let n : 0 + length (pairs w) ≤ length out = rw z h in
      (rw (e, le-leb (length w / 2) (length out) h) refl, rw e (rw z at (put-fits out 0 (pairs w) n).0))
