-- The states that no syllable is left for have coordinates −1, 0 and 1: their tails spell them.
use Rattle.std.specs.Prelude.{◌≡◌, refl, Bool, true, ◌&&◌, ℕ, zero, suc, ◌+◌, ◌*◌, ◌/◌, ◌%◌, ◌≤◌, ◌^◌, ℤ, pos, negsuc, nat_abs, ◌+ℤ◌, ◌*ℤ◌}
use Rattle.std.proofs.Common.{sym, ◌∙◌, ap, ap₂, subst, arith}
use Rattle.integers.specs.lemmas.Booleans.{both_true, both_of}
use Rattle.ring.specs.declared.Point.{Point}
use Rattle.gate_theory.specs.Bits.{implies, since, odd, plain}
use Rattle.gate_theory.specs.Points.{N}
use Rattle.gate_theory.specs.Parities.{parities}
use Rattle.gate_theory.specs.State.{State, Equation, Stage, last, odds, sides, Ready}
use Rattle.gate_theory.specs.Table.{tail_at, tail}
use Rattle.gate_theory.specs.Matrix.{Spells, of_state}
use Rattle.gate_theory.proofs.lemmas.Tails.{three, points, solves, good, equal, is_equal, test-0, test-1, good-at, spells_at}

-- ---- all small points
pub record Small (v : Point) : Type 0 where
  pub a : nat_abs v.a ≤ 1
  pub b : nat_abs v.b ≤ 1
  pub c : nat_abs v.c ≤ 1
  pub d : nat_abs v.d ≤ 1

three-law : (f : ℤ → Bool) → three f ≡ true → (z : ℤ) → nat_abs z ≤ 1 → f z ≡ true
three-law f e (pos zero) h = (both_true (f (pos 0)) (f (pos 1) && f (negsuc 0)) e).0
three-law f e (pos (suc zero)) h = (both_true (f (pos 1)) (f (negsuc 0)) (both_true (f (pos 0)) (f (pos 1) && f (negsuc 0)) e).1).0
three-law f e (pos (suc (suc n))) h = absurd (omega arith)
three-law f e (negsuc zero) h = (both_true (f (pos 1)) (f (negsuc 0)) (both_true (f (pos 0)) (f (pos 1) && f (negsuc 0)) e).1).1
three-law f e (negsuc (suc n)) h = absurd (omega arith)

pub points-law : (f : Point → Bool) → points f ≡ true → (v : Point) → Small v → f v ≡ true
points-law f e v s = three-law (λ d. f (record { a = v.a; b = v.b; c = v.c; d = d })) (three-law fc (three-law fb (three-law fa e v.a s.a) v.b s.b) v.c s.c) v.d s.d
  where
    fa : ℤ → Bool
    fa a = three (λ b. three (λ c. three (λ d. f (record { a = a; b = b; c = c; d = d }))))

    fb : ℤ → Bool
    fb b = three (λ c. three (λ d. f (record { a = v.a; b = b; c = c; d = d })))

    fc : ℤ → Bool
    fc c = three (λ d. f (record { a = v.a; b = v.b; c = c; d = d }))

-- ---- squares that add up to 2 at most
square : (z : ℤ) → z *ℤ z ≡ pos (nat_abs z * nat_abs z)
square (pos n) = refl
square (negsuc n) = refl

abbrev pub sq : ℤ → ℕ
sq z = nat_abs z * nat_abs z

pub N-squares : (v : Point) → N v ≡ pos (sq v.a + sq v.b + (sq v.c + sq v.d))
N-squares v = ap₂ ◌+ℤ◌ (ap₂ ◌+ℤ◌ (square v.a) (square v.b)) (ap₂ ◌+ℤ◌ (square v.c) (square v.d))

pub pos-is : (m n : ℕ) → pos m ≡ pos n → m ≡ n
pos-is m n e = cc

low : (n : ℕ) → n * n ≤ 2 → n ≤ 1
low zero h = omega arith
low (suc zero) h = omega arith
low (suc (suc n)) h = absurd (omega arith)

pub small : (u t : Point) (n : ℕ) → N u +ℤ N t ≡ pos n → n ≤ 2 → Small u × Small t
small u t n e h =
    let f : sq u.a + sq u.b + (sq u.c + sq u.d) + (sq t.a + sq t.b + (sq t.c + sq t.d)) ≡ n = pos-is _ _ (sym (ap₂ ◌+ℤ◌ (N-squares u) (N-squares t)) ∙ e) in
    (record { a = low _ (omega arith); b = low _ (omega arith); c = low _ (omega arith); d = low _ (omega arith) }, record { a = low _ (omega arith); b = low _ (omega arith); c = low _ (omega arith); d = low _ (omega arith) })

-- ---- the tails
spells_good : (s : State) (k : ℕ) → s.k ≡ k → good k s.u s.t ≡ true → s.l % 2 ≡ 0 → Spells (tail s) s.k (of_state s)
unfolding tail
spells_good s k j g l =
    let m = s.l % 8 / 2 in
    let n : s.l % 8 ≡ 2 * m = omega arith in
    subst (λ i. Spells (tail_at s.u s.t m) i (of_state s)) (sym j) (spells_at k s.u s.t m s.l (tail_at s.u s.t m) n (good-at k s.u s.t m (omega arith) g))

pub solves-is : (k : ℕ) (u t : Point) → Equation k u t → solves k u t ≡ true
solves-is k u t e = both_of (ap (λ z. equal z (pos (2 ^ k))) e.squares ∙ is_equal (pos (2 ^ k))) (ap (λ z. equal z (pos 0)) e.crosses ∙ is_equal (pos 0))

good-0 : (u t : Point) → Equation 0 u t → good 0 u t ≡ true
good-0 u t e =
    let s = small u t 1 e.squares (omega arith) in
    since (solves 0 u t) (good 0 u t) (points-law (λ t. implies (solves 0 u t) (good 0 u t)) (points-law (λ u. points (λ t. implies (solves 0 u t) (good 0 u t))) test-0 u s.0) t s.1) (solves-is 0 u t e)

abbrev based : Point → Point → Bool
based u t = solves 1 u t && (odd (parities u) && plain (parities u) (parities t))

good-1 : (u t : Point) → Equation 1 u t → odd (parities u) ≡ true → plain (parities u) (parities t) ≡ true → good 1 u t ≡ true
good-1 u t e o p =
    let s = small u t 2 e.squares (omega arith) in
    since (based u t) (good 1 u t) (points-law (λ t. implies (based u t) (good 1 u t)) (points-law (λ u. points (λ t. implies (based u t) (good 1 u t))) test-1 u s.0) t s.1) (both_of (solves-is 1 u t e) (both_of o p))

pub tail-spells : (s : State) → Ready 0 s → Spells (tail s) s.k (of_state s)
tail-spells s h = go h.stage
  where
    at : (k : ℕ) → s.k ≡ k → Equation k s.u s.t
    at k j = subst (λ i. Equation i s.u s.t) j h.equation

    go : Stage 0 s → Spells (tail s) s.k (of_state s)
    go (last k l n) = spells_good s 0 k (good-0 s.u s.t (at 0 k)) l
    go (odds k o p n) = let j : s.k ≡ 1 = omega arith in spells_good s 1 j (good-1 s.u s.t (at 1 j) o p) (omega arith)
    go (sides k o p n) = absurd (omega arith)
