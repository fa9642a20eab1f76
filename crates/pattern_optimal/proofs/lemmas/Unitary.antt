-- The columns of a word's product, each H over √2, are of length 1: so what a word spells solves the equation of SPEC, "Other entry".
use Rattle.std.specs.Prelude.{◌≡◌, refl, List, [], ◌∷◌, ℕ, zero, suc, ◌+◌, ◌*◌, ◌%◌, ◌^◌, ℤ, pos, ◌+ℤ◌, ◌*ℤ◌}
use Rattle.std.proofs.Common.{sym, ◌∙◌, ap, ap₂, subst, arith, pow-suc}
use Rattle.integers.specs.lemmas.RingZ.{polyZ, by_ring}
use Rattle.ring.specs.declared.Point.{Point}
use Rattle.ring.specs.Point.{sum-parts}
use Rattle.ring.specs.Point.Divide.{times-√2}
use Rattle.gate_theory.specs.Points.{turn, N, F, minus_parts}
use Rattle.gate_theory.specs.State.{Equation}
use Rattle.gate_theory.proofs.lemmas.Halving.{Halves, N-halves, F-halves, N-√2, F-√2, N-turn, F-turn}
use Rattle.gate_theory.proofs.lemmas.Equation.{equation_over}
use Rattle.gate_theory.proofs.lemmas.Least.{equation_turn}
use Rattle.gate_theory.specs.Table.{Letter, H, S, T, W}
use Rattle.gate_theory.specs.Word.{Ts}
use Rattle.gate_theory.specs.Matrix.{Hs, scale, √2^, Spells, made}
use Rattle.gate_theory.proofs.lemmas.Run.{Column, act, run, product-run, root, scale-made}

twice : (n : ℕ) → 2 * 2 ^ n ≡ 2 ^ suc n
twice n = omega (arith, pow-suc 2 n)

-- U = u + t and Z = u − t: one √2² more
raised : (n : ℕ) (U Z u t : Point) → Halves U Z u t → Equation n u t → Equation (suc n) U Z
raised n U Z u t h e = record { squares = N-halves U Z u t h ∙ ap (λ x. pos 2 *ℤ x) e.squares ∙ ap pos (twice n); crosses = F-halves U Z u t h ∙ ap (λ x. pos 2 *ℤ x) e.crosses }

-- ---- the column of a word
acted : (x : Letter) (w : List Letter) (c : Column) → Equation (Hs w) c.u c.t → Equation (Hs (x ∷ w)) (act x c).u (act x c).t
acted H w c e = raised (Hs w) _ _ c.u c.t (record { sum = sym (sum-parts c.u c.t); difference = sym (minus_parts c.u c.t) }) e
acted S w c e = equation_turn (Hs w) c.u (turn c.t) (equation_turn (Hs w) c.u c.t e)
acted T w c e = equation_turn (Hs w) c.u c.t e
acted W w c e = record { squares = ap₂ ◌+ℤ◌ (N-turn c.u) (N-turn c.t) ∙ e.squares; crosses = ap₂ ◌+ℤ◌ (F-turn c.u) (F-turn c.t) ∙ e.crosses }

pub column-equation : (w : List Letter) → Equation (Hs w) (run w).u (run w).t
column-equation [] = record { squares = refl; crosses = refl }
column-equation (x ∷ w) = acted x w (run w) (column-equation w)

-- every word spells the matrix of its column, whose determinant is an odd power of ω where its T are odd in number
pub column-spells : (w : List Letter) → Spells w (Hs w) (made (run w).u (run w).t (run w).l)
column-spells w = record { exactly = ap (scale (√2^ (Hs w))) (product-run w) }

act-l : (x : Letter) (w : List Letter) (l : ℕ) (c : Column) → c.l ≡ l → l % 2 ≡ Ts w % 2 → (act x c).l % 2 ≡ Ts (x ∷ w) % 2
act-l H w l c e f = omega arith
act-l S w l c e f = omega arith
act-l T w l c e f = omega arith
act-l W w l c e f = omega arith

pub column-parity : (w : List Letter) → (run w).l % 2 ≡ Ts w % 2
column-parity [] = refl
column-parity (x ∷ w) = act-l x w (run w).l (run w) refl (column-parity w)

-- ---- both times √2^k, and back
once : (n : ℕ) (u t : Point) → Equation n u t → Equation (suc n) (root 1 u) (root 1 t)
once n u t e = record {
  squares = ap₂ ◌+ℤ◌ (ap N (sym (times-√2 u)) ∙ N-√2 u) (ap N (sym (times-√2 t)) ∙ N-√2 t) ∙ out (N u) (N t) ∙ ap (λ x. pos 2 *ℤ x) e.squares ∙ ap pos (twice n);
  crosses = ap₂ ◌+ℤ◌ (ap F (sym (times-√2 u)) ∙ F-√2 u) (ap F (sym (times-√2 t)) ∙ F-√2 t) ∙ out (F u) (F t) ∙ ap (λ x. pos 2 *ℤ x) e.crosses;
}
  where
    out : (a b : ℤ) → pos 2 *ℤ a +ℤ pos 2 *ℤ b ≡ pos 2 *ℤ (a +ℤ b)
    out a b = by_ring (a ∷ b ∷ []) (search polyZ depth 20) refl

rooted : (k n : ℕ) (u t : Point) → Equation n u t → Equation (k + n) (root k u) (root k t)
rooted zero n u t e = let j : n ≡ 0 + n = omega arith in subst (λ i. Equation i u t) j e
rooted (suc k) n u t e =
    let j : k + suc n ≡ suc k + n = omega arith in
    subst (λ i. Equation i (root (suc k) u) (root (suc k) t)) j (rooted k (suc n) (root 1 u) (root 1 t) (once n u t e))

unrooted : (k n : ℕ) (u t : Point) → Equation (k + n) (root k u) (root k t) → Equation n u t
unrooted zero n u t e = let j : 0 + n ≡ n = omega arith in subst (λ i. Equation i u t) j e
unrooted (suc k) n u t e =
    let j : suc k + n ≡ k + suc n = omega arith in
    equation_over n (root 1 u) (root 1 t) u t (times-√2 u) (times-√2 t) (unrooted k (suc n) (root 1 u) (root 1 t) (subst (λ i. Equation i (root (suc k) u) (root (suc k) t)) j e))

-- what a word spells, at any scale
pub spells_equation : (w : List Letter) (k : ℕ) (u t : Point) (l : ℕ) → Spells w k (made u t l) → Equation k u t
spells_equation w k u t l s =
    let c = run w in
    let e = sym (ap (scale (√2^ k)) (product-run w) ∙ scale-made k c.u c.t c.l) ∙ s.exactly ∙ scale-made (Hs w) u t l in
    let j : k + Hs w ≡ Hs w + k = omega arith in
    unrooted (Hs w) k u t (subst (λ i. Equation i (root (Hs w) u) (root (Hs w) t)) j (subst (λ x. Equation (k + Hs w) x.a x.c) e (rooted k (Hs w) c.u c.t (column-equation w))))
