-- Sums of powers of 2: bit j of the sum over the j that pass is whether j passes; and the sum is 0 just where none does.
-- Assumes nothing.
use Rattle.std.specs.Prelude.{◌≡◌, refl, Bool, true, false, cond, ◌||◌, ℕ, zero, suc, ◌+◌, ◌*◌, ◌^◌, ◌/◌, ◌%◌, ◌<◌, eqb}
use Rattle.std.proofs.Common.{sym, ap, ◌∙◌, arith, eq-eqb, ne_eqb}
use Rattle.std.proofs.Math.Nat.{pow-succ', div-div-eq-div-mul}
use Rattle.std.proofs.Math.Decide.{dec_lt}
use Rattle.tray_list.specs.Tray.{some, bits}
use Rattle.tray_list.specs.Bits.{bit}

abbrev one : Bool → ℕ
one b = cond b 1 0

twice : (b : Bool) (n : ℕ) → cond b (2 ^ suc n) 0 ≡ 2 * cond b (2 ^ n) 0
twice true n = pow-succ' 2 n
twice false n = refl

-- the first one apart
bits-first : (n : ℕ) (f : ℕ → Bool) → bits (suc n) f ≡ one (f 0) + 2 * bits n (λ j. f (suc j))
unfolding bits
bits-first zero f = omega arith
bits-first (suc n) f = let e = bits-first n f in let t = twice (f (suc n)) n in omega arith

half_of : (b : Bool) (m : ℕ) → (one b + 2 * m) / 2 ≡ m
half_of true m = omega arith
half_of false m = omega arith

bit-zero : (b : Bool) (m : ℕ) → bit (one b + 2 * m) 0 ≡ b
bit-zero true m = let e : (1 + 2 * m) / 1 % 2 ≡ 1 = omega arith in eq-eqb ((1 + 2 * m) / 1 % 2) 1 e
bit-zero false m = ne_eqb ((0 + 2 * m) / 1 % 2) 1 (λ e. omega arith)

bit-suc : (m j : ℕ) → bit m (suc j) ≡ bit (m / 2) j
bit-suc m j = ap (λ (x : ℕ). eqb (x % 2) 1) (ap (λ (x : ℕ). m / x) (pow-succ' 2 j) ∙ sym (div-div-eq-div-mul m 2 (2 ^ j)))

-- bit j of the sum over the j below n that pass
pub bit-of : (n j : ℕ) (f : ℕ → Bool) → j < n → bit (bits n f) j ≡ f j
bit-of zero j f h = absurd (omega arith)
bit-of (suc n) zero f h = ap (λ (m : ℕ). bit m 0) (bits-first n f) ∙ bit-zero (f 0) (bits n (λ i. f (suc i)))
bit-of (suc n) (suc j) f h =
    let x = bits n (λ i. f (suc i)) in
    bit-suc (bits (suc n) f) j
    ∙ ap (λ (m : ℕ). bit (m / 2) j) (bits-first n f)
    ∙ ap (λ (m : ℕ). bit m j) (half_of (f 0) x)
    ∙ bit-of n j (λ i. f (suc i)) (omega arith)

or_right : (a b : Bool) → b ≡ true → a || b ≡ true
or_right true b e = refl
or_right false b e = e

or_left : (a b : Bool) → a ≡ true → a || b ≡ true
or_left a b e = rw e

-- where one below n passes, some does
pub some_of : (n j : ℕ) (f : ℕ → Bool) → j < n → f j ≡ true → some n f ≡ true
unfolding some
some_of zero j f h e = absurd (omega arith)
some_of (suc n) j f h e = go (dec_lt j n) (λ l. some_of n j f l e)
  where
    go : Dec (j < n) → (j < n → some n f ≡ true) → some n f || f n ≡ true
    go (yes l) ih = or_left (some n f) (f n) (ih l)
    go (no k) ih = let i : j ≡ n = omega arith in or_right (some n f) (f n) (rw i at e)

-- and where some does, one does
pub some_one : (n : ℕ) (f : ℕ → Bool) → some n f ≡ true → (j : ℕ) × (j < n) × (f j ≡ true)
unfolding some
some_one zero f e = absurd (let z : ◌≡◌ {A = ℕ} 0 1 = cc in omega arith)
some_one (suc n) f e = go (some n f) refl e (λ h. some_one n f h)
  where
    go : (b : Bool) → some n f ≡ b → b || f n ≡ true → (some n f ≡ true → (j : ℕ) × (j < n) × (f j ≡ true)) → (j : ℕ) × (j < suc n) × (f j ≡ true)
    go true h k ih = let i = ih h in (i.0, omega arith, i.2)
    go false h k ih = (n, omega arith, k)

-- a sum below 2^n
pub bits_below : (n : ℕ) (f : ℕ → Bool) → bits n f < 2 ^ n
unfolding bits
bits_below zero f = omega arith
bits_below (suc n) f = go (f n) (bits_below n f)
  where
    go : (b : Bool) → bits n f < 2 ^ n → bits n f + cond b (2 ^ n) 0 < 2 ^ suc n
    go true h = omega (arith, pow-succ' 2 n)
    go false h = omega (arith, pow-succ' 2 n)
