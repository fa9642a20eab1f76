-- The state before a syllable: for each state that r syllables are left for, and each of HT and SHT, one that r + 1 are left for, whose step leads back.
use Rattle.std.specs.Prelude.{◌≡◌, refl, Bool, true, false, not, cond, ◌&&◌, ℕ, suc, ◌+◌, ◌*◌, ◌^◌, pos, ◌+ℤ◌, ◌*ℤ◌}
use Rattle.std.proofs.Common.{sym, ◌∙◌, ap, arith, pow-suc}
use Rattle.integers.specs.lemmas.Booleans.{both_true}
use Rattle.ring.specs.declared.Point.{Point}
use Rattle.ring.specs.Point.{◌+ω◌, ◌-ω◌}
use Rattle.ring.specs.Point.Divide.{halves}
use Rattle.gate_theory.specs.Bits.{Bits, not_true, odd, side, rest, full, plain, bare, sum, turned, rooted, squares, xor, Rule}
use Rattle.gate_theory.specs.Points.{turn, back, N, F}
use Rattle.gate_theory.specs.Parities.{parities, parities-+, parities--, parities-turn}
use Rattle.gate_theory.specs.State.{State, Equation}
use Rattle.gate_theory.proofs.lemmas.Halving.{Halves, N-halves, F-halves, N-turn, F-turn}
use Rattle.gate_theory.proofs.lemmas.Equation.{equation_turned}
use Rattle.gate_theory.proofs.lemmas.Letters.{back-turn}

-- i^b z
abbrev pub phased : Bool → Point → Point
phased b z = cond b z (turn (turn z))

abbrev pub sum_of : State → Point
sum_of s = s.u +ω turn s.t

abbrev pub difference-of : State → Point
difference-of s = s.u -ω turn s.t

abbrev pub raised_by : Bool → State → State
raised_by b s = record { k = suc s.k; u = sum_of s; t = phased b (difference-of s); l = s.l + cond b 5 7 }

abbrev pub rooted_by : Bool → State → State
rooted_by b s = record { k = s.k; u = halves (sum_of s); t = phased b (halves (difference-of s)); l = s.l + cond b 5 7 }

-- ---- parities
abbrev pub fits : Bits → Bits → Bool
fits p q = plain p q && bare p q && (plain p (turned (turned q)) && not (bare p (turned (turned q))))

pub fitting : (p q : Bits) (b : Bool) → fits p q ≡ true → (plain p (cond b q (turned (turned q))) ≡ true) × (bare p (cond b q (turned (turned q))) ≡ b)
fitting p q true e = both_true (plain p q) (bare p q) (both_true (plain p q && bare p q) (plain p (turned (turned q)) && not (bare p (turned (turned q)))) e).0
fitting p q false e =
    let f = both_true (plain p (turned (turned q))) (not (bare p (turned (turned q)))) (both_true (plain p q && bare p q) (plain p (turned (turned q)) && not (bare p (turned (turned q)))) e).1 in
    (f.0, not_true _ f.1)

pub self_rule : Rule (λ p q. not (rest p)) (λ p q. fits p p)
self_rule = record { test = refl }

pub odd-rule : Rule (λ p q. odd p && plain p q) (λ p q. side (sum p (turned q)) && not (rest (sum p (turned q))))
odd-rule = record { test = refl }

pub last_rule : Rule (λ p q. squares 1 p q) (λ p q. odd (sum p (turned q)) && not (rest (sum p (turned q))))
last_rule = record { test = refl }

pub side-rule : Rule (λ p q. side p && plain p q) (λ p q. rest (sum p (turned q)) && full (rooted p) && xor (sum p (turned q)).b (sum p (turned q)).c)
side-rule = record { test = refl }

pub mixed_rule : Rule (λ p q. xor (rooted p).b (rooted p).c) (λ p q. odd p)
mixed_rule = record { test = refl }

pub flip_rule : Rule (λ p x. full (rooted p) && odd x) (λ p x. fits x (sum (rooted p) x))
flip_rule = record { test = refl }

pub phased-parities : (b : Bool) (z : Point) → parities (phased b z) ≡ cond b (parities z) (turned (turned (parities z)))
phased-parities true z = refl
phased-parities false z = parities-turn (turn z) ∙ ap turned (parities-turn z)

pub phased-N : (b : Bool) (z : Point) → (N (phased b z) ≡ N z) × (F (phased b z) ≡ F z)
phased-N true z = (refl, refl)
phased-N false z = (N-turn (turn z) ∙ N-turn z, F-turn (turn z) ∙ F-turn z)

pub unphased : (b : Bool) (z : Point) → cond b (phased b z) (back (back (phased b z))) ≡ z
unphased true z = refl
unphased false z = ap back (back-turn (turn z)) ∙ back-turn z

pub sum-parities : (s : State) → parities (sum_of s) ≡ sum (parities s.u) (turned (parities s.t))
sum-parities s = parities-+ s.u (turn s.t) ∙ ap (sum (parities s.u)) (parities-turn s.t)

pub difference-parities : (s : State) → parities (difference-of s) ≡ parities (sum_of s)
difference-parities s = parities-- s.u (turn s.t) ∙ sym (parities-+ s.u (turn s.t))

-- ---- the equation
sum-N : (s : State) → Halves (sum_of s) (difference-of s) s.u (turn s.t)
sum-N s = record { sum = refl; difference = refl }

pub raised-equation : (b : Bool) (s : State) → Equation s.k s.u s.t → Equation (suc s.k) (sum_of s) (phased b (difference-of s))
raised-equation b s e = equation_turned _ _ (difference-of s) _ (phased-N b _).0 (phased-N b _).1 (record {
  squares = N-halves _ _ _ _ (sum-N s) ∙ ap (λ x. pos 2 *ℤ (N s.u +ℤ x)) (N-turn s.t) ∙ ap (λ x. pos 2 *ℤ x) e.squares ∙ ap pos (twice (2 ^ s.k) ∙ sym (pow-suc 2 s.k));
  crosses = F-halves _ _ _ _ (sum-N s) ∙ ap (λ x. pos 2 *ℤ (F s.u +ℤ x)) (F-turn s.t) ∙ ap (λ x. pos 2 *ℤ x) e.crosses;
})
  where
    twice : (n : ℕ) → 2 * n ≡ n * 2
    twice n = omega arith
