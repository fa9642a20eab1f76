-- Pairs u and t that solve the equation: √2 divides u if and only if it divides t, so both have the same exponent; dividing both solves it one scale down.
use Rattle.std.specs.Prelude.{◌≡◌, refl, true, ℕ, zero, suc, ◌-◌, ◌^◌, ◌≤◌, pos, ◌-ℤ◌, ◌*ℤ◌, Option, Some, None}
use Rattle.std.proofs.Math.Path.{sym}
use Rattle.std.proofs.Common.{ap, ap₂, ◌∙◌, arith}
use Rattle.std.proofs.Math.IntN.{◌+ℤ◌, +ℤ_comm, +ℤ_assoc}
use Rattle.integers.specs.lemmas.Booleans.{both_true, both_of}
use Rattle.ring.specs.declared.Point.{Point}
use Rattle.ring.specs.Point.{◌*ω◌, √2ω}
use Rattle.ring.specs.Point.Divide.{divide_root2, halves, divide_whole, divide_times, divide_not}
use Rattle.ring.specs.Point.Exponent.{exponent_of, exponent_zero, exponent_whole, exponent_not, pulse_count, pulse_is}
use Rattle.entry_equation.specs.Equation.{same, squares, cross, completes}
use Rattle.entry_equation.specs.lemmas.Tests.{same_true, true_same}
use Rattle.gate_theory.specs.Points.{N, F}
use Rattle.gate_theory.specs.State.{Equation}
use Rattle.gate_theory.proofs.lemmas.Equation.{equation_over}
use Rattle.gate_theory.proofs.lemmas.Least.{t-over}

-- ---- the equation, as the spelling has it
squares-is : (v : Point) → squares v ≡ N v
unfolding squares
squares-is v = +ℤ_assoc (v.a *ℤ v.a +ℤ v.b *ℤ v.b) (v.c *ℤ v.c) (v.d *ℤ v.d)

cross-is : (v : Point) → cross v ≡ F v
unfolding cross
cross-is v = +ℤ_assoc (v.d *ℤ v.c -ℤ v.d *ℤ v.a) (v.b *ℤ v.c) (v.a *ℤ v.b)

module _ (k : ℕ) (u t : Point) where
  pub solved : completes k u t ≡ true → Equation k u t
  unfolding completes
  solved e =
      let (f, g) = both_true (same (squares u +ℤ squares t) (pos (2 ^ k))) _ e in
      record { squares = sym (ap₂ ◌+ℤ◌ (squares-is u) (squares-is t)) ∙ same_true _ _ f; crosses = sym (ap₂ ◌+ℤ◌ (cross-is u) (cross-is t)) ∙ same_true _ _ g }

  pub completed : Equation k u t → completes k u t ≡ true
  unfolding completes
  completed e = both_of (true_same _ _ (ap₂ ◌+ℤ◌ (squares-is u) (squares-is t) ∙ e.squares)) (true_same _ _ (ap₂ ◌+ℤ◌ (cross-is u) (cross-is t) ∙ e.crosses))

  exchanged : Equation k u t → Equation k t u
  exchanged e = record { squares = +ℤ_comm (N t) (N u) ∙ e.squares; crosses = +ℤ_comm (F t) (F u) ∙ e.crosses }

-- ---- dividing both
divided : (v x : Point) → x *ω √2ω ≡ v → divide_root2 v ≡ Some x
divided v x e = ap divide_root2 (sym e) ∙ divide_times x

-- where √2 divides u, it divides t
pub both-divide : (k : ℕ) (u t x : Point) → completes (suc k) u t ≡ true → divide_root2 u ≡ Some x → divide_root2 t ≡ Some (halves t)
both-divide k u t x e d = divided t (halves t) (t-over k u t x (solved (suc k) u t e) (divide_whole u x d))

-- and the quotients solve the equation one scale down
pub over-both : (k : ℕ) (u t x : Point) → completes (suc k) u t ≡ true → divide_root2 u ≡ Some x → completes k x (halves t) ≡ true
over-both k u t x e d =
    let p = divide_whole u x d in
    let q = solved (suc k) u t e in
    completed k x (halves t) (equation_over k u t x (halves t) p (t-over k u t x q p) q)

neither_divides : (k : ℕ) (u t : Point) → completes (suc k) u t ≡ true → divide_root2 u ≡ None → divide_root2 t ≡ None
neither_divides k u t e d = go (divide_root2 t) refl
  where
    go : (q : Option Point) → divide_root2 t ≡ q → divide_root2 t ≡ None
    go (Some y) f = absurd (divide_not u (halves u) d (t-over k t u y (exchanged (suc k) u t (solved (suc k) u t e)) (divide_whole t y f)))
    go None f = f

-- one step of the exponent
pub step : (k : ℕ) (v x : Point) → divide_root2 v ≡ Some x → exponent_of (suc k) v ≡ exponent_of k x
step k v x d = let e : suc k - 1 ≡ k = omega arith in sym (exponent_whole (suc k) v x (omega arith) d) ∙ ap (λ n. exponent_of n x) e

-- u and t have the same exponent
pub same-exponent : (k : ℕ) (u t : Point) → completes k u t ≡ true → exponent_of k u ≡ exponent_of k t
same-exponent zero u t e = exponent_zero u ∙ sym (exponent_zero t)
same-exponent (suc k) u t e = go (divide_root2 u) refl (λ x y f. same-exponent k x y f)
  where
    go : (q : Option Point) → divide_root2 u ≡ q → ((x y : Point) → completes k x y ≡ true → exponent_of k x ≡ exponent_of k y) → exponent_of (suc k) u ≡ exponent_of (suc k) t
    go (Some x) d ih = step k u x d ∙ ih x (halves t) (over-both k u t x e d) ∙ sym (step k t (halves t) (both-divide k u t x e d))
    go None d ih = sym (exponent_not (suc k) u (omega arith) d) ∙ exponent_not (suc k) t (omega arith) (neither_divides k u t e d)

-- m grows with the exponent
pub m_rises : (e f : ℕ) → e ≤ f → pulse_count e ≤ pulse_count f
m_rises e f h = rw (pulse_is e, pulse_is f) (omega arith)
