-- The word of a matrix, and its number of T.
use Rattle.std.specs.Prelude.{◌≡◌, refl, Bool, true, false, cond, List, [], ◌∷◌, ◌++◌, ℕ, zero, suc, ◌+◌, ◌-◌, ◌*◌, ◌/◌, ◌%◌, ◌<◌, eqb, get_or, Option, Some, None}
use Rattle.std.proofs.Common.{◌∙◌, ap, arith}
use Rattle.ring.specs.declared.Point.{Point}
use Rattle.ring.specs.Point.Divide.{divide_root2, halves}
use Rattle.gate_theory.specs.Bits.{odd}
use Rattle.gate_theory.specs.Points.{back}
use Rattle.gate_theory.specs.Parities.{parities}
use Rattle.gate_theory.specs.State.{State, is_plain, is_bare, next}
use Rattle.gate_theory.specs.Table.{Letter, H, S, T, W, letter, unpack, tails, index, tail}

abbrev pub syllable : Bool → List Letter
syllable true = H ∷ T ∷ []
syllable false = S ∷ H ∷ T ∷ []

-- r syllables, then the tail
unfoldable pub body : ℕ → State → List Letter
body zero s = tail s
body (suc r) s = syllable (is_bare s) ++ body r (next s)

-- how many, of a state without a T in front
abbrev pub syllables : State → ℕ
syllables s = cond (eqb s.k 0) 0 (cond (odd (parities s.u)) (2 * s.k - 2 + s.l % 2) (2 * s.k - 3 + (s.l + 1) % 2))

abbrev pub without-T : State → State
without-T s = record { k = s.k; u = s.u; t = back s.t; l = s.l + 7 }

-- with or without a T
abbrev pub front : Bool → State → List Letter
front true s = body (syllables s) s
front false s = T ∷ body (syllables (without-T s)) (without-T s)

abbrev pub bare_at_zero : State → Bool
bare_at_zero s = cond (eqb s.k 0) true (is_plain s)

abbrev pub spelled : State → List Letter
spelled s = front (bare_at_zero s) s

-- u and t divided by √2 as often as u can be, k times at most
abbrev pub over : State → (Point → State) → Option Point → State
over s f (Some x) = f x
over s f None = s

unfoldable pub reduced : ℕ → Point → Point → State
reduced zero u t = record { k = 0; u = u; t = t; l = 0 }
reduced (suc k) u t = over (record { k = suc k; u = u; t = t; l = 0 }) (λ x. reduced k x (halves t)) (divide_root2 u)

-- the word of the matrix with rows (u, −t†) and (t, u†) over √2^k
unfoldable pub word : ℕ → Point → Point → List Letter
word k u t = spelled (reduced k u t)

-- ---- the number of T
abbrev pub counted : Letter → ℕ → ℕ
counted H n = n
counted S n = n
counted T n = suc n
counted W n = n

abbrev pub Ts : List Letter → ℕ
Ts [] = 0
Ts (x ∷ w) = counted x (Ts w)

letter-T : (n m : ℕ) → counted (letter n) m ≡ m
letter-T zero m = refl
letter-T (suc zero) m = refl
letter-T (suc (suc zero)) m = refl
letter-T (suc (suc (suc n))) m = refl

unpack-Ts : (n c : ℕ) (w : List Letter) → Ts (unpack n c w) ≡ Ts w
unpack-Ts zero c w = refl
unpack-Ts (suc n) zero w = refl
unpack-Ts (suc n) (suc c) w = unpack-Ts n (suc c / 4) (letter (suc c % 4) ∷ w) ∙ letter-T (suc c % 4) (Ts w)

pub tail-Ts : (s : State) → Ts (tail s) ≡ 0
unfolding tail
tail-Ts s = unpack-Ts 10 (get_or tails (index s.u s.t (s.l % 8 / 2)) 0) []

-- a T for each syllable
pub body-Ts : (r : ℕ) (s : State) → Ts (body r s) ≡ r
unfolding body
body-Ts zero s = tail-Ts s
body-Ts (suc r) s = go (is_bare s) (body-Ts r (next s))
  where
    go : (b : Bool) → Ts (body r (next s)) ≡ r → Ts (syllable b ++ body r (next s)) ≡ suc r
    go true h = ap suc h
    go false h = ap suc h

-- ---- the reduction, a step at a time
pub reduced-zero : (u t : Point) → reduced 0 u t ≡ record { k = 0; u = u; t = t; l = 0 }
unfolding reduced
reduced-zero u t = refl

pub reduced-whole : (k : ℕ) (u t x : Point) → 0 < k → divide_root2 u ≡ Some x → reduced (k - 1) x (halves t) ≡ reduced k u t
unfolding reduced
reduced-whole zero u t x h d = absurd (omega arith)
reduced-whole (suc k) u t x h d = let f : suc k - 1 ≡ k = omega arith in rw (f, d) refl

pub reduced-not : (k : ℕ) (u t : Point) → 0 < k → divide_root2 u ≡ None → record { k = k; u = u; t = t; l = 0 } ≡ reduced k u t
unfolding reduced
reduced-not zero u t h d = absurd (omega arith)
reduced-not (suc k) u t h d = rw d refl
