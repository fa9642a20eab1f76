-- Sizes for the code: up to the top scale a word has at most 128 letters, and coordinates are narrow.
use Rattle.std.specs.Prelude.{◌≡◌, refl, Bool, true, false, List, [], ◌∷◌, ◌++◌, ℕ, zero, suc, ◌+◌, ◌-◌, ◌*◌, ◌/◌, ◌%◌, ◌^◌, ◌≤◌, ◌<◌, ◌+ℤ◌, length, get_or, Option, Some, None}
use Rattle.std.proofs.Common.{sym, ◌∙◌, ap, ap₂, mul-le-mul, pow-suc, arith}
use Rattle.std.proofs.Math.Decide.{dec_lt}
use Rattle.record_ranges.specs.Ranges.{top_scale}
use Rattle.ring.specs.declared.Point.{Point}
use Rattle.ring.specs.Point.Divide.{divide_root2, halves}
use Rattle.gate_theory.specs.State.{State, Equation, is_bare, next, Stage, last, odds, sides, Narrow}
use Rattle.gate_theory.specs.Table.{Letter, letter, unpack, tails, index, tail}
use Rattle.gate_theory.specs.Word.{syllable, syllables, without-T, front, bare_at_zero, spelled, reduced, over, word, body}
use Rattle.gate_theory.proofs.lemmas.Least.{Least, reduced-least}
use Rattle.gate_theory.proofs.lemmas.Number.{starts, starts-T}
use Rattle.gate_theory.proofs.lemmas.Base.{sq, N-squares, pos-is}

-- ---- letters
pub unpack-length : (n c : ℕ) (w : List Letter) → length (unpack n c w) ≤ n + length w
unpack-length zero c w = omega arith
unpack-length (suc n) zero w = omega arith
unpack-length (suc n) (suc c) w = omega (arith, unpack-length n (suc c / 4) (letter (suc c % 4) ∷ w))

pub body-length : (r : ℕ) (s : State) → length (body r s) ≤ 3 * r + 10
unfolding body tail
body-length zero s = unpack-length 10 (get_or tails (index s.u s.t (s.l % 8 / 2)) 0) []
body-length (suc r) s = go (is_bare s) (body-length r (next s))
  where
    go : (b : Bool) → length (body r (next s)) ≤ 3 * r + 10 → length (syllable b ++ body r (next s)) ≤ 3 * suc r + 10
    go true h = omega arith
    go false h = omega arith

pub stage_small : (r : ℕ) (s : State) → s.k ≤ top_scale → Stage r s → r ≤ 39
stage_small r s h (last k l n) = omega arith
stage_small r s h (odds k o p n) = omega arith
stage_small r s h (sides k o p n) = omega arith

pub reduced-k : (k : ℕ) (u t : Point) → (reduced k u t).k ≤ k
unfolding reduced
reduced-k zero u t = omega arith
reduced-k (suc k) u t = go (divide_root2 u) (λ x y. reduced-k k x y)
  where
    go : (q : Option Point) → ((x y : Point) → (reduced k x y).k ≤ k) → (over (record { k = suc k; u = u; t = t; l = 0 }) (λ x. reduced k x (halves t)) q).k ≤ suc k
    go (Some x) ih = omega (arith, ih x (halves t))
    go None ih = omega arith

spelled-length : (e : ℕ) (s : State) → Least e s → s.k ≤ top_scale → length (spelled s) ≤ 128
spelled-length e s h k = go (bare_at_zero s) refl
  where
    go : (b : Bool) → bare_at_zero s ≡ b → length (front b s) ≤ 128
    go true b = omega (arith, body-length (syllables s) s, stage_small (syllables s) s k (starts e s h b).stage)
    go false b =
        let r = without-T s in
        omega (arith, body-length (syllables r) r, stage_small (syllables r) r k (starts-T e s h b).stage)

pub word-length : (k : ℕ) (u t : Point) → k ≤ top_scale → Equation k u t → length (word k u t) ≤ 128
unfolding word
word-length k u t h e = spelled-length _ (reduced k u t) (reduced-least k u t e) (omega (arith, reduced-k k u t))

-- ---- coordinates
low : (n : ℕ) → n * n ≤ 2 ^ top_scale → n < 2 ^ 28
low n h = go (dec_lt n (2 ^ 28))
  where
    go : Dec (n < 2 ^ 28) → n < 2 ^ 28
    go (yes l) = l
    go (no l) = let m : 2 ^ 28 ≤ n = omega arith in absurd (omega (arith, mul-le-mul m m))

power : (k j : ℕ) → 2 ^ k ≤ 2 ^ (j + k)
power k zero = let e : 0 + k ≡ k = omega arith in omega (arith, ap (λ n. 2 ^ n) e)
power k (suc j) = let e : suc j + k ≡ suc (j + k) = omega arith in omega (arith, power k j, ap (λ n. 2 ^ n) e, pow-suc 2 (j + k))

pub narrow : (k : ℕ) (u t : Point) → k ≤ top_scale → Equation k u t → Narrow u × Narrow t
narrow k u t h e =
    let j : top_scale - k + k ≡ top_scale = omega arith in
    let p : 2 ^ k ≤ 2 ^ top_scale = omega (arith, power k (top_scale - k), ap (λ n. 2 ^ n) j) in
    let f : sq u.a + sq u.b + (sq u.c + sq u.d) + (sq t.a + sq t.b + (sq t.c + sq t.d)) ≡ 2 ^ k = pos-is _ _ (sym (ap₂ ◌+ℤ◌ (N-squares u) (N-squares t)) ∙ e.squares) in
    (record { a = low _ (omega arith); b = low _ (omega arith); c = low _ (omega arith); d = low _ (omega arith) }, record { a = low _ (omega arith); b = low _ (omega arith); c = low _ (omega arith); d = low _ (omega arith) })
