-- Where a word starts, and the number of T of the better of U and TUT†.
use Rattle.std.specs.Prelude.{◌≡◌, refl, Bool, true, false, not, cond, ◌&&◌, ℕ, suc, ◌+◌, ◌-◌, ◌*◌, ◌%◌, ◌≤◌, min, eqb}
use Rattle.std.proofs.Common.{sym, ◌∙◌, ap, arith, ne_eqb}
use Rattle.std.proofs.Math.Decide.{dec_le}
use Rattle.std.proofs.Math.Nat.{min-eq_left, min-eq_right}
use Rattle.integers.specs.lemmas.Booleans.{both_of}
use Rattle.ring.specs.declared.Point.{Point}
use Rattle.ring.specs.Point.Exponent.{exponent_of}
use Rattle.gate_theory.specs.Bits.{xor, odd, side, rest, plain, Rule, rule}
use Rattle.gate_theory.proofs.lemmas.Finite.{one_plain, first-not_side}
use Rattle.gate_theory.specs.Points.{turn, back}
use Rattle.gate_theory.specs.Parities.{parities, parities-turn, parities-back}
use Rattle.gate_theory.specs.State.{State, Equation, is_plain, Stage, last, odds, sides, Ready}
use Rattle.gate_theory.proofs.lemmas.Halving.{N-back, F-back}
use Rattle.gate_theory.proofs.lemmas.Equation.{at_first, at_some, equation_turned}
use Rattle.gate_theory.specs.Word.{syllables, without-T, front, bare_at_zero, spelled, reduced, word, Ts, body-Ts}
use Rattle.gate_theory.proofs.lemmas.Least.{Least, reduced-least, turned_state, reduced-turn, equation_turn}

some-k : (k : ℕ) → 1 ≤ k → eqb k 0 ≡ false
some-k k h = ne_eqb k 0 (omega arith)

no_k : (k : ℕ) → k ≡ 0 → eqb k 0 ≡ true
no_k k e = ap (λ n. eqb n 0) e

class_rule : Rule (λ p q. not (rest p) && not (odd p)) (λ p q. side p)
class_rule = record { test = refl }

pub not_both : (b : Bool) → b ≡ true → not b ≡ true → ⊥
not_both true e f = let z : ◌≡◌ {A = ℕ} 0 1 = cc in omega arith
not_both false e f = let z : ◌≡◌ {A = ℕ} 0 1 = cc in omega arith

-- a state without a T in front that √2 does not divide
pub stage_of_lem : (s : State) → Equation s.k s.u s.t → 1 ≤ s.k → not (rest (parities s.u)) ≡ true → is_plain s ≡ true → Stage (syllables s) s
stage_of_lem s e k n p = go (odd (parities s.u)) refl
  where
    go : (b : Bool) → odd (parities s.u) ≡ b → Stage (syllables s) s
    go true o = rw (some-k s.k k, o) (odds k o p (omega arith))
    go false o =
        let c : side (parities s.u) ≡ true = rule class_rule (parities s.u) (parities s.u) (both_of n (ap not o)) in
        let two : 2 ≤ s.k = elim (dec_le 2 s.k) [ yes j ↦ j | no j ↦ absurd (not_both _ c (first-not_side (parities s.u) (parities s.t) (at_first s.k s.u s.t (omega arith) e))) ] in
        rw (some-k s.k k, o) (sides two c p (omega arith))

xor-false : (x y : Bool) → xor x y ≡ true → x ≡ false → y ≡ true
xor-false true y e f = let z : ◌≡◌ {A = ℕ} 0 1 = cc in absurd (omega arith)
xor-false false y e f = e

-- ---- the start
module _ (e : ℕ) (s : State) (h : Least e s) where
  at_zero : s.k ≡ 0 → bare_at_zero s ≡ true
  at_zero k = ap (λ b. cond b true (is_plain s)) (no_k s.k k)

  above_zero : 1 ≤ s.k → bare_at_zero s ≡ is_plain s
  above_zero k = ap (λ b. cond b true (is_plain s)) (some-k s.k k)

  pub starts : bare_at_zero s ≡ true → Ready (syllables s) s
  starts b = record { equation = h.equation; stage = elim (dec_le 1 s.k) [ yes k ↦ stage_of_lem s h.equation k (h.whole k) (sym (above_zero k) ∙ b) | no k ↦ zeroth (omega arith) ] }
    where
      zeroth : s.k ≡ 0 → Stage (syllables s) s
      zeroth k = last k (omega (arith, h.phase)) (ap (λ b. cond b 0 (cond (odd (parities s.u)) (2 * s.k - 2 + s.l % 2) (2 * s.k - 3 + (s.l + 1) % 2))) (no_k s.k k))

  -- T in front: there is an H to write, and ω⁻¹ t needs no T
  pub starts-T : bare_at_zero s ≡ false → Ready (syllables (without-T s)) (without-T s)
  starts-T b = elim (dec_le 1 s.k) [ yes k ↦ go k | no k ↦ absurd (none (omega arith)) ]
    where
      none : s.k ≡ 0 → ⊥
      none k = not_both (bare_at_zero s) (at_zero k) (ap not b)

      go : 1 ≤ s.k → Ready (syllables (without-T s)) (without-T s)
      go k =
          let q = equation_turned s.k s.u s.t (back s.t) (N-back s.t) (F-back s.t) h.equation in
          let f = (one_plain (parities s.u) (parities s.t) (at_some s.k s.u s.t k h.equation) (h.whole k)).1 in
          let p : is_plain (without-T s) ≡ true = ap (plain (parities s.u)) (parities-back s.t) ∙ xor-false (is_plain s) _ f (sym (above_zero k) ∙ b) in
          record { equation = q; stage = stage_of_lem (without-T s) q k (h.whole k) p }

  -- ---- the number of T
  fewest : (r : ℕ) → Stage r s → r ≡ 2 * e - 2
  fewest r (last k l n) = omega (arith, h.exponent)
  fewest r (odds k o p n) = omega (arith, h.exponent, h.phase)
  fewest r (sides k o p n) = omega (arith, h.exponent, h.phase)

  pub plain-Ts : bare_at_zero s ≡ true → Ts (spelled s) ≡ 2 * e - 2
  plain-Ts b = ap (λ b. Ts (front b s)) b ∙ body-Ts (syllables s) s ∙ fewest (syllables s) (starts b).stage

  more : (r : ℕ) → Stage r (without-T s) → 2 * e - 2 ≤ suc r
  more r (last k l n) = omega (arith, h.exponent)
  more r (odds k o p n) = omega (arith, h.exponent)
  more r (sides k o p n) = omega (arith, h.exponent, h.phase)

  pub front-Ts : bare_at_zero s ≡ false → 2 * e - 2 ≤ Ts (spelled s)
  front-Ts b =
      let c : Ts (spelled s) ≡ suc (syllables (without-T s)) = ap (λ b. Ts (front b s)) b ∙ ap suc (body-Ts (syllables (without-T s)) (without-T s)) in
      rw c (more (syllables (without-T s)) (starts-T b).stage)

  pub some-Ts : 2 * e - 2 ≤ Ts (spelled s)
  some-Ts = go (bare_at_zero s) refl
    where
      go : (b : Bool) → bare_at_zero s ≡ b → 2 * e - 2 ≤ Ts (spelled s)
      go true b = omega (arith, plain-Ts b)
      go false b = front-Ts b

-- ---- exactly one of U and TUT† has no T in front, and it has the fewest
pub turned-least : (e : ℕ) (s : State) → Least e s → Least e (turned_state s)
turned-least e s h = record { exponent = h.exponent; equation = equation_turn s.k s.u s.t h.equation; phase = h.phase; whole = h.whole }

turned_plain : (e : ℕ) (s : State) → Least e s → bare_at_zero s ≡ false → bare_at_zero (turned_state s) ≡ true
turned_plain e s h b = elim (dec_le 1 s.k) [ yes k ↦ go k | no k ↦ at_zero e (turned_state s) (turned-least e s h) (omega arith) ]
  where
    go : 1 ≤ s.k → bare_at_zero (turned_state s) ≡ true
    go k =
        let f = (one_plain (parities s.u) (parities s.t) (at_some s.k s.u s.t k h.equation) (h.whole k)).0 in
        above_zero e (turned_state s) (turned-least e s h) k ∙ ap (plain (parities s.u)) (parities-turn s.t) ∙ xor-false (is_plain s) _ f (sym (above_zero e s h k) ∙ b)

min_left : (m a b : ℕ) → a ≡ m → m ≤ b → min a b ≡ m
min_left m a b e h = min-eq_left {n = a} {m = b} (omega arith) ∙ e

min_right : (m a b : ℕ) → b ≡ m → m ≤ a → min a b ≡ m
min_right m a b e h = min-eq_right {n = b} {m = a} (omega arith) ∙ e

two_words : (e : ℕ) (s : State) → Least e s → min (Ts (spelled s)) (Ts (spelled (turned_state s))) ≡ 2 * e - 2
two_words e s h = go (bare_at_zero s) refl
  where
    go : (b : Bool) → bare_at_zero s ≡ b → min (Ts (spelled s)) (Ts (spelled (turned_state s))) ≡ 2 * e - 2
    go true b = min_left (2 * e - 2) (Ts (spelled s)) (Ts (spelled (turned_state s))) (plain-Ts e s h b) (some-Ts e (turned_state s) (turned-least e s h))
    go false b = min_right (2 * e - 2) (Ts (spelled s)) (Ts (spelled (turned_state s))) (plain-Ts e (turned_state s) (turned-least e s h) (turned_plain e s h b)) (some-Ts e s h)

-- U and TUT†, of first columns (u, t) and (u, ω t): the fewer T are 2e − 2, and 0 where e = 0
pub least-Ts : (k : ℕ) (u t : Point) → Equation k u t → min (Ts (word k u t)) (Ts (word k u (turn t))) ≡ 2 * exponent_of k u - 2
unfolding word
least-Ts k u t e = ap (λ s. min (Ts (spelled (reduced k u t))) (Ts (spelled s))) (reduced-turn k u t e) ∙ two_words (exponent_of k u) (reduced k u t) (reduced-least k u t e)
