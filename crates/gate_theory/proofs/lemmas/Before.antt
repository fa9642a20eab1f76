-- The state before a syllable is ready, and its step leads back.
use Rattle.std.specs.Prelude.{◌≡◌, refl, Bool, true, false, not, cond, ◌&&◌, [], ◌∷◌, ℕ, suc, ◌+◌, ◌%◌, ◌^◌}
use Rattle.std.proofs.Common.{sym, ◌∙◌, ap, ap₂, subst, arith, eq-eqb}
use Rattle.integers.specs.lemmas.Booleans.{both_true, both_of}
use Rattle.integers.specs.Parity.{half-double}
use Rattle.integers.specs.lemmas.Ring.{poly, by_ring}
use Rattle.ring.specs.declared.Point.{Point}
use Rattle.ring.specs.Point.{◌+ω◌, ◌-ω◌, ◌*ω◌, √2ω, ringω, sum-parts}
use Rattle.ring.specs.Point as P
use Rattle.ring.specs.Point.Divide.{halves, times-injective}
use Rattle.gate_theory.specs.Bits.{xor, odd, side, rest, full, none, plain, bare, sum, turned, rooted, squares, weight, Rule, rule}
use Rattle.gate_theory.specs.Points.{turn, back, halved}
use Rattle.gate_theory.specs.Parities.{parities, parities-+, parities--, parities-√2, weights}
use Rattle.gate_theory.specs.State.{State, Equation, is_plain, is_bare, unturn, plus, less, next, Stage, last, odds, sides, Ready}
use Rattle.gate_theory.proofs.lemmas.Halving.{Halves, over-√2, by-√2}
use Rattle.gate_theory.proofs.lemmas.Equation.{equation_turned, equation_over}
use Rattle.gate_theory.proofs.lemmas.Letters.{back-turn}
use Rattle.gate_theory.proofs.lemmas.Step.{next-even, next-not, full-rest}
use Rattle.gate_theory.proofs.lemmas.Least.{u-rest}
use Rattle.gate_theory.proofs.lemmas.Unique.{Alike}
use Rattle.gate_theory.proofs.lemmas.Prior.{phased, sum_of, difference-of, raised_by, rooted_by, fitting, self_rule, odd-rule, last_rule, side-rule, mixed_rule, flip_rule, phased-parities, phased-N, unphased, sum-parities, difference-parities, raised-equation}

turns : (b : Bool) (l : ℕ) → ((l + cond b 5 7) % 2 ≡ (l + 1) % 2) × ((l + cond b 5 7 + cond b 3 1) % 8 ≡ l % 8)
turns true l = (omega arith, omega arith)
turns false l = (omega arith, omega arith)

halved-double : (v : Point) → halved (v +ω v) ≡ v
halved-double v = ap halved (sum-parts v v) ∙ P.ext (half-double v.a) (half-double v.b) (half-double v.c) (half-double v.d)

double_rule : Rule (λ p q. true) (λ p q. none (sum p p))
double_rule = record { test = refl }

halves-root : (v : Point) → halves (v *ω √2ω) ≡ v
halves-root v = times-injective _ _ (over-√2 (v *ω √2ω) (u-rest (v *ω √2ω) v refl))

unturn-is : (b : Bool) (p : State) (z : Point) → is_bare p ≡ b → p.t ≡ phased b z → unturn p ≡ z
unturn-is b p z e f = ap₂ (λ c t. cond c t (back (back t))) e f ∙ unphased b z

module _ (b : Bool) (s : State) where
  -- ---- one √2² more: from the odd ones and from k = 0
  raised-next : is_bare (raised_by b s) ≡ b → Alike (next (raised_by b s)) s
  raised-next e =
      let p = raised_by b s in
      let y = turn s.t in
      let z = unturn-is b p (difference-of s) e refl in
      let d : plus p ≡ s.u +ω s.u = ap (λ t. sum_of s +ω t) z ∙ twice s.u y in
      let f : less p ≡ y +ω y = ap (λ t. sum_of s -ω t) z ∙ other s.u y in
      let n : none (parities (plus p)) ≡ true = ap (λ v. none (parities v)) d ∙ ap none (parities-+ s.u s.u) ∙ rule double_rule (parities s.u) (parities s.u) refl in
      subst (λ r. Alike r s) (sym (next-even p n)) (record {
        k = omega arith;
        u = ap halved d ∙ halved-double s.u;
        t = ap (λ v. back (halved v)) f ∙ ap back (halved-double y) ∙ back-turn s.t;
        l = ap (λ c. (s.l + cond b 5 7 + cond c 3 1) % 8) e ∙ (turns b s.l).1;
      })
    where
      twice : (x y : Point) → (x +ω y) +ω (x -ω y) ≡ x +ω x
      twice x y = by_ring ringω (x ∷ y ∷ []) (search poly depth 20) refl

      other : (x y : Point) → (x +ω y) -ω (x -ω y) ≡ y +ω y
      other x y = by_ring ringω (x ∷ y ∷ []) (search poly depth 20) refl

  raised-fits : not (rest (parities (sum_of s))) ≡ true → (is_plain (raised_by b s) ≡ true) × (is_bare (raised_by b s) ≡ b)
  raised-fits n =
      let P = parities (sum_of s) in
      let f = fitting P P b (rule self_rule P P n) in
      let q : parities (phased b (difference-of s)) ≡ cond b P (turned (turned P)) = phased-parities b (difference-of s) ∙ ap (λ p. cond b p (turned (turned p))) (difference-parities s) in
      (ap (plain P) q ∙ f.0, ap (bare P) q ∙ f.1)

  -- ---- as many: from the class `side`
  module _ (h : rest (parities (sum_of s)) ≡ true) (g : full (rooted (parities s.u)) ≡ true) where
    roots : Halves (s.u *ω √2ω) (turn s.t *ω √2ω) (halves (sum_of s)) (halves (difference-of s))
    roots = by-√2 s.u (turn s.t) _ _ (over-√2 (sum_of s) h) (over-√2 (difference-of s) (ap rest (difference-parities s) ∙ h))

    rooted-next : is_bare (rooted_by b s) ≡ b → Alike (next (rooted_by b s)) s
    rooted-next e =
        let p = rooted_by b s in
        let v = unturn-is b p (halves (difference-of s)) e refl in
        let d : plus p ≡ s.u *ω √2ω = ap (λ t. halves (sum_of s) +ω t) v ∙ sym roots.sum in
        let f : less p ≡ turn s.t *ω √2ω = ap (λ t. halves (sum_of s) -ω t) v ∙ sym roots.difference in
        let n : full (parities (plus p)) ≡ true = ap (λ v. full (parities v)) d ∙ ap full (parities-√2 s.u) ∙ g in
        subst (λ r. Alike r s) (sym (next-not p (full-rest (parities (plus p)) n).1)) (record {
          k = refl;
          u = ap halves d ∙ halves-root s.u;
          t = ap (λ v. back (halves v)) f ∙ ap back (halves-root (turn s.t)) ∙ back-turn s.t;
          l = ap (λ c. (s.l + cond b 5 7 + cond c 3 1) % 8) e ∙ (turns b s.l).1;
        })

    rooted-fits : odd (parities (halves (sum_of s))) ≡ true → (is_plain (rooted_by b s) ≡ true) × (is_bare (rooted_by b s) ≡ b)
    rooted-fits o =
        let x = halves (sum_of s) in
        let z = halves (difference-of s) in
        let Z = sum (rooted (parities s.u)) (parities x) in
        let c : parities z ≡ Z = ap parities (other x z ∙ ap (λ t. t -ω x) (sym roots.sum)) ∙ parities-- (s.u *ω √2ω) x ∙ ap (λ t. sum t (parities x)) (parities-√2 s.u) in
        let f = fitting (parities x) Z b (rule flip_rule (parities s.u) (parities x) (both_of g o)) in
        let q : parities (phased b z) ≡ cond b Z (turned (turned Z)) = phased-parities b z ∙ ap (λ p. cond b p (turned (turned p))) c in
        (ap (plain (parities x)) q ∙ f.0, ap (bare (parities x)) q ∙ f.1)
      where
        other : (x y : Point) → y ≡ (x +ω y) -ω x
        other x y = by_ring ringω (x ∷ y ∷ []) (search poly depth 20) refl

    rooted-equation : Equation s.k s.u s.t → Equation s.k (halves (sum_of s)) (phased b (halves (difference-of s)))
    rooted-equation e = equation_turned _ _ (halves (difference-of s)) _ (phased-N b _).0 (phased-N b _).1
        (equation_over s.k (sum_of s) (difference-of s) _ _ (over-√2 (sum_of s) h) (over-√2 (difference-of s) (ap rest (difference-parities s) ∙ h)) (raised-equation true s e))

-- ---- the state before
pub record Before (r : ℕ) (b : Bool) (s : State) : Type 0 where
  pub state : State
  pub ready : Ready (suc r) state
  pub bare : is_bare state ≡ b
  pub step : Alike (next state) s

pub prior : (r : ℕ) (b : Bool) (s : State) → Ready r s → Before r b s
prior r b s h = go h.stage
  where
    go : Stage r s → Before r b s
    go (last k l n) =
        let w : squares 1 (parities s.u) (parities s.t) ≡ true = eq-eqb ((weight (parities s.u) + weight (parities s.t)) % 4) 1 (weights s.u s.t (2 ^ s.k) h.equation.squares ∙ ap (λ k. 2 ^ k % 4) k) in
        let c = rule last_rule (parities s.u) (parities s.t) w in
        let d = both_true (odd (sum (parities s.u) (turned (parities s.t)))) (not (rest (sum (parities s.u) (turned (parities s.t))))) c in
        let o : odd (parities (sum_of s)) ≡ true = ap odd (sum-parities s) ∙ d.0 in
        let f = raised-fits b s (ap (λ p. not (rest p)) (sum-parities s) ∙ d.1) in
        record { state = raised_by b s; ready = record { equation = raised-equation b s h.equation; stage = odds (omega arith) o f.0 (omega (arith, (turns b s.l).0)) }; bare = f.1; step = raised-next b s f.1 }
    go (odds k o p n) =
        let c = rule odd-rule (parities s.u) (parities s.t) (both_of o p) in
        let d = both_true (side (sum (parities s.u) (turned (parities s.t)))) (not (rest (sum (parities s.u) (turned (parities s.t))))) c in
        let q : side (parities (sum_of s)) ≡ true = ap side (sum-parities s) ∙ d.0 in
        let f = raised-fits b s (ap (λ p. not (rest p)) (sum-parities s) ∙ d.1) in
        record { state = raised_by b s; ready = record { equation = raised-equation b s h.equation; stage = sides (omega arith) q f.0 (omega (arith, (turns b s.l).0)) }; bare = f.1; step = raised-next b s f.1 }
    go (sides k o p n) =
        let U = sum (parities s.u) (turned (parities s.t)) in
        let c = both_true (rest U && full (rooted (parities s.u))) (xor U.b U.c) (rule side-rule (parities s.u) (parities s.t) (both_of o p)) in
        let d = both_true (rest U) (full (rooted (parities s.u))) c.0 in
        let t : rest (parities (sum_of s)) ≡ true = ap rest (sum-parities s) ∙ d.0 in
        let x = halves (sum_of s) in
        let m : rooted (parities x) ≡ U = sym (parities-√2 x) ∙ ap parities (over-√2 (sum_of s) t) ∙ sum-parities s in
        let q : odd (parities x) ≡ true = rule mixed_rule (parities x) (parities x) (ap (λ v. xor v.b v.c) m ∙ c.1) in
        let f = rooted-fits b s t d.1 q in
        record { state = rooted_by b s; ready = record { equation = rooted-equation b s t d.1 h.equation; stage = odds (omega arith) q f.0 (omega (arith, (turns b s.l).0)) }; bare = f.1; step = rooted-next b s t d.1 f.1 }
