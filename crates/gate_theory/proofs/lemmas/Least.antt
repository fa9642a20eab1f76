-- The reduction to the least exponent, of t and of ω t.
use Rattle.std.specs.Prelude.{◌≡◌, refl, Bool, true, false, not, ℕ, zero, suc, ◌-◌, ◌≤◌, Option, Some, None}
use Rattle.std.proofs.Common.{sym, ◌∙◌, ap, subst, arith}
use Rattle.ring.specs.declared.Point.{Point}
use Rattle.ring.specs.Point.{◌*ω◌, √2ω}
use Rattle.ring.specs.Point.Divide.{divide_root2, halves, divide_whole, divide_not, times-injective}
use Rattle.ring.specs.Point.Exponent.{exponent_of, exponent_zero, exponent_whole, exponent_not}
use Rattle.gate_theory.specs.Bits.{rest, rooted, Rule, rule}
use Rattle.gate_theory.proofs.lemmas.Finite.{both_rest}
use Rattle.gate_theory.specs.Points.{turn, turn-√2}
use Rattle.gate_theory.specs.Parities.{parities, parities-√2}
use Rattle.gate_theory.specs.State.{State, Equation}
use Rattle.gate_theory.proofs.lemmas.Halving.{over-√2, N-turn, F-turn}
use Rattle.gate_theory.proofs.lemmas.Equation.{at_some, equation_turned, equation_over}
use Rattle.gate_theory.specs.Word.{reduced, over}

-- what the reduction leaves: the least exponent, and a u that √2 does not divide unless it is 0
pub record Least (e : ℕ) (s : State) : Type 0 where
  pub exponent : s.k ≡ e
  pub equation : Equation s.k s.u s.t
  pub phase : s.l ≡ 0
  pub whole : 1 ≤ s.k → not (rest (parities s.u)) ≡ true

not_whole : (v : Point) → divide_root2 v ≡ None → not (rest (parities v)) ≡ true
not_whole v e = go (rest (parities v)) refl
  where
    go : (b : Bool) → rest (parities v) ≡ b → not b ≡ true
    go true r = absurd (divide_not v (halves v) e (over-√2 v r))
    go false r = refl

rooted-rule : Rule (λ p q. true) (λ p q. rest (rooted p))
rooted-rule = record { test = refl }

pub u-rest : (u x : Point) → x *ω √2ω ≡ u → rest (parities u) ≡ true
u-rest u x d = ap (λ v. rest (parities v)) (sym d) ∙ ap rest (parities-√2 x) ∙ rule rooted-rule (parities x) (parities x) refl

-- √2 divides t where it divides u
pub t-over : (k : ℕ) (u t x : Point) → Equation (suc k) u t → x *ω √2ω ≡ u → halves t *ω √2ω ≡ t
t-over k u t x e d = over-√2 t (both_rest (parities u) (parities t) (at_some (suc k) u t (omega arith) e) (u-rest u x d))

pub reduced-least : (k : ℕ) (u t : Point) → Equation k u t → Least (exponent_of k u) (reduced k u t)
unfolding reduced
reduced-least zero u t e = record { exponent = sym (exponent_zero u); equation = e; phase = refl; whole = λ h. absurd (omega arith) }
reduced-least (suc k) u t e = go (divide_root2 u) refl (λ x y f. reduced-least k x y f)
  where
    go : (q : Option Point) → divide_root2 u ≡ q → ((x y : Point) → Equation k x y → Least (exponent_of k x) (reduced k x y)) → Least (exponent_of (suc k) u) (over (record { k = suc k; u = u; t = t; l = 0 }) (λ x. reduced k x (halves t)) q)
    go (Some x) d ih =
        let p = divide_whole u x d in
        let j : suc k - 1 ≡ k = omega arith in
        subst (λ n. Least n (reduced k x (halves t))) (ap (λ n. exponent_of n x) (sym j) ∙ exponent_whole (suc k) u x (omega arith) d) (ih x (halves t) (equation_over k u t x (halves t) p (t-over k u t x e p) e))
    go None d ih = record { exponent = exponent_not (suc k) u (omega arith) d; equation = e; phase = refl; whole = λ h. not_whole u d }

-- ---- of ω t: the same, with t turned
pub equation_turn : (k : ℕ) (u t : Point) → Equation k u t → Equation k u (turn t)
equation_turn k u t = equation_turned k u t (turn t) (N-turn t) (F-turn t)

abbrev pub turned_state : State → State
turned_state s = record { k = s.k; u = s.u; t = turn s.t; l = s.l }

pub reduced-turn : (k : ℕ) (u t : Point) → Equation k u t → reduced k u (turn t) ≡ turned_state (reduced k u t)
unfolding reduced
reduced-turn zero u t e = refl
reduced-turn (suc k) u t e = go (divide_root2 u) refl (λ x y f. reduced-turn k x y f)
  where
    go : (q : Option Point) → divide_root2 u ≡ q → ((x y : Point) → Equation k x y → reduced k x (turn y) ≡ turned_state (reduced k x y))
        → over (record { k = suc k; u = u; t = turn t; l = 0 }) (λ x. reduced k x (halves (turn t))) q ≡ turned_state (over (record { k = suc k; u = u; t = t; l = 0 }) (λ x. reduced k x (halves t)) q)
    go (Some x) d ih =
        let p = divide_whole u x d in
        let y = t-over k u t x e p in
        let z = t-over k u (turn t) x (equation_turn (suc k) u t e) p in
        let h : halves (turn t) ≡ turn (halves t) = times-injective _ _ (z ∙ sym (ap turn y) ∙ turn-√2 (halves t)) in
        ap (reduced k x) h ∙ ih x (halves t) (equation_over k u t x (halves t) p y e)
    go None d ih = refl
