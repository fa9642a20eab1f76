-- Words in H, S and W by their numbers: the shorter first, then by the alphabet.
use Rattle.std.specs.Prelude.{◌≡◌, refl, List, [], ◌∷◌, ℕ, zero, suc, ◌+◌, ◌*◌, ◌≤◌, ◌<◌, ◌^◌, length}
use Rattle.std.proofs.Common.{ap, subst, inl, inr, pow-suc, mul-le-mul, le_refl, arith}
use Rattle.std.proofs.Math.Decide.{dec_lt}
use Rattle.gate_theory.specs.Table.{Letter, H, S, T, W}
use Rattle.gate_theory.specs.Word.{Ts}
use Rattle.gate_theory.specs.Normal.{Alphabetical, ends, first, later, rank, Leads}
use Rattle.gate_theory.proofs.lemmas.Moves.{digit, number}

pub below : (w : List Letter) → number w < 4 ^ length w
below [] = omega arith
below (H ∷ w) = omega (arith, below w, pow-suc 4 (length w))
below (S ∷ w) = omega (arith, below w, pow-suc 4 (length w))
below (T ∷ w) = omega (arith, below w, pow-suc 4 (length w))
below (W ∷ w) = omega (arith, below w, pow-suc 4 (length w))

pub above : (w : List Letter) → Ts w ≡ 0 → 4 ^ length w ≤ 3 * number w + 1
above [] e = omega arith
above (H ∷ w) e = omega (arith, above w e, pow-suc 4 (length w))
above (S ∷ w) e = omega (arith, above w e, pow-suc 4 (length w))
above (T ∷ w) e = absurd (omega arith)
above (W ∷ w) e = omega (arith, above w e, pow-suc 4 (length w))

power-mono : (m n : ℕ) → m ≤ n → 4 ^ m ≤ 4 ^ n
power-mono m n h = go m n h
  where
    go : (m n : ℕ) → m ≤ n → 4 ^ m ≤ 4 ^ n
    go zero zero h = omega arith
    go zero (suc n) h = omega (arith, go zero n (omega arith), pow-suc 4 n)
    go (suc m) zero h = absurd (omega arith)
    go (suc m) (suc n) h = omega (arith, go m n (omega arith), pow-suc 4 m, pow-suc 4 n)

-- a number that is not above is of a word that is not longer
pub not_longer : (v w : List Letter) → Ts v ≡ 0 → number v ≤ number w → length v ≤ length w
not_longer v w e h = go (dec_lt (length w) (length v))
  where
    go : Dec (length w < length v) → length v ≤ length w
    go (yes l) = absurd (omega (arith, below w, above v e, power-mono (suc (length w)) (length v) l, pow-suc 4 (length w)))
    go (no l) = omega arith

-- one letter before both
pub before : (x : Letter) (v w : List Letter) → Ts v ≡ 0 → number v ≤ number w → number (x ∷ v) ≤ number (x ∷ w)
before x v w e h = let p = mul-le-mul (le_refl (digit x)) (power-mono (length v) (length w) (not_longer v w e h)) in omega arith

-- ---- by the alphabet
data Compared (x y : Letter) : Type 0 where
  less : rank x < rank y → Compared x y
  same : x ≡ y → Compared x y
  more : digit y < digit x → Compared x y

pub free : (x : Letter) (w : List Letter) → Ts (x ∷ w) ≡ 0 → Ts w ≡ 0
free H w e = e
free S w e = e
free T w e = absurd (omega arith)
free W w e = e

compared : (x y : Letter) (v w : List Letter) → Ts (x ∷ v) ≡ 0 → Ts (y ∷ w) ≡ 0 → Compared x y
compared H H v w e f = same refl
compared H S v w e f = less (omega arith)
compared H T v w e f = absurd (omega arith)
compared H W v w e f = less (omega arith)
compared S H v w e f = more (omega arith)
compared S S v w e f = same refl
compared S T v w e f = absurd (omega arith)
compared S W v w e f = less (omega arith)
compared T y v w e f = absurd (omega arith)
compared W H v w e f = more (omega arith)
compared W S v w e f = more (omega arith)
compared W T v w e f = absurd (omega arith)
compared W W v w e f = same refl

alphabetical : (v w : List Letter) → length v ≡ length w → Ts v ≡ 0 → Ts w ≡ 0 → number v ≤ number w → Alphabetical v w
alphabetical [] [] n e f h = ends
alphabetical [] (y ∷ w) n e f h = absurd (omega arith)
alphabetical (x ∷ v) [] n e f h = absurd (omega arith)
alphabetical (x ∷ v) (y ∷ w) n e f h = go (compared x y v w e f) (alphabetical v w (omega arith) (free x v e) (free y w f))
  where
    powers : 4 ^ length v ≡ 4 ^ length w
    powers = ap (λ j. 4 ^ j) (omega arith)

    go : Compared x y → (number v ≤ number w → Alphabetical v w) → Alphabetical (x ∷ v) (y ∷ w)
    go (less l) ih = first l
    go (same l) ih = subst (λ z. Alphabetical (x ∷ v) (z ∷ w)) l (later (ih (omega (arith, ap (λ z. digit z * 4 ^ length w) l, ap (λ p. digit x * p) powers))))
    go (more l) ih = absurd (omega (arith, below w, mul-le-mul l (le_refl (4 ^ length w)), ap (λ p. digit x * p) powers))

pub leads : (w v : List Letter) → Ts w ≡ 0 → Ts v ≡ 0 → number w ≤ number v → Leads w v
leads w v e f h = go (dec_lt (length w) (length v))
  where
    go : Dec (length w < length v) → Leads w v
    go (yes l) = inl l
    go (no l) = let n : length w ≡ length v = omega (arith, not_longer w v e h) in inr (n, alphabetical w v n e f h)
