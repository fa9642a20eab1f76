-- The word of (k, u, t) spells the matrix with rows (u, −t†) and (t, u†) over √2^k, exactly.
use Rattle.std.specs.Prelude.{◌≡◌, refl, Bool, true, false, List, [], ◌∷◌, ℕ, zero, suc, ◌+◌, pos, Option, Some, None}
use Rattle.std.proofs.Common.{sym, ◌∙◌, ap, ap₂, subst, arith}
use Rattle.integers.specs.lemmas.Ring.{poly, by_ring}
use Rattle.ring.specs.declared.Point.{Point}
use Rattle.ring.specs.Point.{◌+ω◌, ◌*ω◌, negω, numω, ω, √2ω, ringω, *ω-comm}
use Rattle.ring.specs.Point.Divide.{divide_root2, halves, divide_whole}
use Rattle.ring.specs.Point.Exponent.{exponent_of}
use Rattle.gate_theory.specs.Points.{turn, dagger, times-ω}
use Rattle.gate_theory.specs.State.{State, Equation}
use Rattle.gate_theory.proofs.lemmas.Equation.{equation_over}
use Rattle.gate_theory.specs.Table.{Letter, T}
use Rattle.gate_theory.specs.Word.{syllables, without-T, front, bare_at_zero, spelled, reduced, over, word, body}
use Rattle.gate_theory.proofs.lemmas.Least.{Least, reduced-least, t-over}
use Rattle.gate_theory.proofs.lemmas.Number.{starts, starts-T}
use Rattle.gate_theory.specs.Matrix.{Matrix, ◌·◌, scale, matrix, product, Hs, √2^, Spells, made, of_state, ext, scale-scale, scale-swap}
use Rattle.gate_theory.proofs.lemmas.Letters.{dagger-turn, T-made, made-eight, made-√2}
use Rattle.gate_theory.proofs.lemmas.Spelled.{goes_on, body-spells}
use Rattle.gate_theory.proofs.lemmas.Base.{tail-spells}

-- T in front
T-spells : (w : List Letter) (s : State) → Spells w s.k (of_state (without-T s)) → Spells (T ∷ w) s.k (of_state s)
T-spells w s e =
    let n : s.l + 7 ≡ suc (suc (suc (suc (suc (suc (suc s.l)))))) = omega arith in
    record { exactly = goes_on (T ∷ []) w s.k (of_state (without-T s)) e ∙ ap (scale (√2^ (Hs w))) (T-made s.u s.t (s.l + 7) ∙ ap (λ n. made s.u s.t (suc n)) n ∙ made-eight s.u s.t s.l) }

spelled-spells : (e : ℕ) (s : State) → Least e s → Spells (spelled s) s.k (of_state s)
spelled-spells e s h = go (bare_at_zero s) refl
  where
    go : (b : Bool) → bare_at_zero s ≡ b → Spells (front b s) s.k (of_state s)
    go true b = body-spells tail-spells (syllables s) s (starts e s h b)
    go false b = T-spells (body (syllables (without-T s)) (without-T s)) s (body-spells tail-spells (syllables (without-T s)) (without-T s) (starts-T e s h b))

-- over √2 once more
raised : (w : List Letter) (k : ℕ) (m : Matrix) → Spells w k m → Spells w (suc k) (scale √2ω m)
raised w k m e = record { exactly = ap (λ r. scale r (product w)) (*ω-comm (√2^ k) √2ω) ∙ sym (scale-scale √2ω (√2^ k) (product w)) ∙ ap (scale √2ω) e.exactly ∙ scale-swap √2ω (√2^ (Hs w)) m }

reduced-spells : (k : ℕ) (u t : Point) → Equation k u t → Spells (spelled (reduced k u t)) k (made u t 0)
unfolding reduced
reduced-spells zero u t e = spelled-spells _ _ (reduced-least 0 u t e)
reduced-spells (suc k) u t e = go (divide_root2 u) refl (λ x y f. reduced-spells k x y f) (reduced-least (suc k) u t e)
  where
    from : ℕ → Option Point → State
    from k q = over (record { k = suc k; u = u; t = t; l = 0 }) (λ x. reduced k x (halves t)) q

    go : (q : Option Point) → divide_root2 u ≡ q → ((x y : Point) → Equation k x y → Spells (spelled (reduced k x y)) k (made x y 0)) → Least (exponent_of (suc k) u) (from k q) → Spells (spelled (from k q)) (suc k) (made u t 0)
    go (Some x) d ih l =
        let p = divide_whole u x d in
        let q = t-over k u t x e p in
        subst (Spells (spelled (reduced k x (halves t))) (suc k)) (sym (made-√2 x (halves t) 0) ∙ ap₂ (λ u t. made u t 0) p q) (raised _ k _ (ih x (halves t) (equation_over k u t x (halves t) p q e)))
    go None d ih l = spelled-spells _ _ l

pub word-spells : (k : ℕ) (u t : Point) → Equation k u t → Spells (word k u t) k (made u t 0)
unfolding word
word-spells k u t e = reduced-spells k u t e

-- the word of TUT†, of first column (u, ω t): T U = (TUT†) T
pub conjugated : (u t : Point) → matrix T · made u t 0 ≡ made u (turn t) 0 · matrix T
conjugated u t = ext (a u t (dagger (turn t))) (ap (λ z. numω (pos 1) *ω negω (numω (pos 1) *ω z) +ω numω (pos 0) *ω (numω (pos 1) *ω dagger u)) (sym (dagger-turn t)) ∙ b u (dagger u) (dagger (turn t)) ω) (ap (λ z. numω (pos 0) *ω u +ω z) (times-ω t) ∙ c u (turn t) (dagger u)) (d (turn t) (dagger u) (dagger t) ω)
  where
    a : (u t x : Point) → numω (pos 1) *ω u +ω numω (pos 0) *ω t ≡ u *ω numω (pos 1) +ω negω (numω (pos 1) *ω x) *ω numω (pos 0)
    a u t x = by_ring ringω (u ∷ t ∷ x ∷ []) (search poly depth 20) refl

    b : (u v x w : Point) → numω (pos 1) *ω negω (numω (pos 1) *ω (w *ω x)) +ω numω (pos 0) *ω (numω (pos 1) *ω v) ≡ u *ω numω (pos 0) +ω negω (numω (pos 1) *ω x) *ω w
    b u v x w = by_ring ringω (u ∷ v ∷ x ∷ w ∷ []) (search poly depth 20) refl

    c : (u t v : Point) → numω (pos 0) *ω u +ω t ≡ t *ω numω (pos 1) +ω numω (pos 1) *ω v *ω numω (pos 0)
    c u t v = by_ring ringω (u ∷ t ∷ v ∷ []) (search poly depth 20) refl

    d : (t v x w : Point) → numω (pos 0) *ω negω (numω (pos 1) *ω x) +ω w *ω (numω (pos 1) *ω v) ≡ t *ω numω (pos 0) +ω numω (pos 1) *ω v *ω w
    d t v x w = by_ring ringω (t ∷ v ∷ x ∷ w ∷ []) (search poly depth 20) refl
