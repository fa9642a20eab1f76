-- A reduced state is known by its matrix: k, u and t exactly, l by 8.
use Rattle.std.specs.Prelude.{◌≡◌, refl, Bool, true, false, not, ◌&&◌, List, [], ◌∷◌, ℕ, zero, suc, ◌%◌, ◌≤◌, ◌<◌, ◌^◌, pos, ◌+ℤ◌}
use Rattle.std.proofs.Common.{sym, ◌∙◌, ap, ap₂, arith, pow-suc}
use Rattle.std.proofs.Math.Decide.{dec_lt}
use Rattle.integers.specs.lemmas.Ring.{poly}
use Rattle.integers.specs.lemmas.Ring as R
use Rattle.integers.specs.lemmas.RingZ.{polyZ, by_ring}
use Rattle.ring.specs.declared.Point.{Point}
use Rattle.ring.specs.Point.{◌*ω◌, negω, ringω}
use Rattle.gate_theory.specs.Bits.{odd, side, rest, Rule, rule}
use Rattle.gate_theory.specs.Points.{dagger, N}
use Rattle.gate_theory.specs.Parities.{parities}
use Rattle.gate_theory.specs.State.{State, Equation, Stage, last, odds, sides, Ready}
use Rattle.gate_theory.proofs.lemmas.Run.{ω_rest}
use Rattle.gate_theory.specs.Table.{Letter}
use Rattle.gate_theory.specs.Normal.{Same}
use Rattle.gate_theory.specs.Matrix.{scale, √2^, ω^, of_state, Spells, Hs, product, scale-swap}
use Rattle.gate_theory.proofs.lemmas.Number.{not_both}
use Rattle.gate_theory.proofs.lemmas.Cancel.{scale-cancel, divides, phase}

-- √2 does not divide u, unless k = 0
pub record Reduced (s : State) : Type 0 where
  pub equation : Equation s.k s.u s.t
  pub whole : 1 ≤ s.k → not (rest (parities s.u)) ≡ true

N-dagger : (v : Point) → N (dagger v) ≡ N v
N-dagger v = by_ring (v.a ∷ v.b ∷ v.c ∷ v.d ∷ []) (search polyZ depth 60) refl

some-power : (k : ℕ) → 1 ≤ 2 ^ k
some-power zero = omega arith
some-power (suc k) = omega (arith, some-power k, pow-suc 2 k)

twice : (v : Point) → v ≡ negω (negω v)
twice v = R.by_ring ringω (v ∷ []) (search poly depth 20) refl

pub record Alike (s r : State) : Type 0 where
  pub k : s.k ≡ r.k
  pub u : s.u ≡ r.u
  pub t : s.t ≡ r.t
  pub l : s.l % 8 ≡ r.l % 8

not_less : (s r : State) → Reduced r → scale (√2^ r.k) (of_state s) ≡ scale (√2^ s.k) (of_state r) → s.k < r.k → ⊥
not_less s r b m h = not_both (rest (parities r.u)) (divides s.k r.k r.u s.u h (sym (ap (λ x. x.a) m))) (b.whole (omega arith))

pub alike : (s r : State) → Reduced s → Reduced r → scale (√2^ r.k) (of_state s) ≡ scale (√2^ s.k) (of_state r) → Alike s r
alike s r a b m = record { k = j; u = ap (λ x. x.a) e; t = ap (λ x. x.c) e; l = phase (s.l % 8) (r.l % 8) (dagger s.u) (dagger s.t) (omega arith) (omega arith) (by-eight s.u right) (by-eight s.t left) none }
  where
    same : Dec (s.k < r.k) → Dec (r.k < s.k) → s.k ≡ r.k
    same (yes h) g = absurd (not_less s r b m h)
    same (no h) (yes g) = absurd (not_less r s a (sym m) g)
    same (no h) (no g) = omega arith

    j : s.k ≡ r.k
    j = same (dec_lt s.k r.k) (dec_lt r.k s.k)

    e : of_state s ≡ of_state r
    e = scale-cancel r.k (of_state s) (of_state r) (m ∙ ap (λ k. scale (√2^ k) (of_state r)) j)

    right : ω^ s.l *ω dagger s.u ≡ ω^ r.l *ω dagger s.u
    right = ap (λ x. x.d) e ∙ ap (λ u. ω^ r.l *ω dagger u) (sym (ap (λ x. x.a) e))

    left : ω^ s.l *ω dagger s.t ≡ ω^ r.l *ω dagger s.t
    left = twice _ ∙ ap negω (ap (λ x. x.b) e) ∙ sym (twice _) ∙ ap (λ t. ω^ r.l *ω dagger t) (sym (ap (λ x. x.c) e))

    by-eight : (v : Point) → ω^ s.l *ω dagger v ≡ ω^ r.l *ω dagger v → ω^ (s.l % 8) *ω dagger v ≡ ω^ (r.l % 8) *ω dagger v
    by-eight v h = ap (λ p. p *ω dagger v) (sym (ω_rest s.l (s.l % 8) refl)) ∙ h ∙ ap (λ p. p *ω dagger v) (ω_rest r.l (r.l % 8) refl)

    none : N (dagger s.u) +ℤ N (dagger s.t) ≡ pos 0 → ⊥
    none z = let f : pos (2 ^ s.k) ≡ pos 0 = sym a.equation.squares ∙ ap₂ ◌+ℤ◌ (sym (N-dagger s.u)) (sym (N-dagger s.t)) ∙ z in let g : 2 ^ s.k ≡ 0 = cc in omega (arith, some-power s.k)

-- ---- a word has one reduced state
pub spelled-alike : (v w : List Letter) (s r : State) → Reduced s → Reduced r → Same v w → Spells v s.k (of_state s) → Spells w r.k (of_state r) → Alike s r
spelled-alike v w s r p q m e f = alike s r p q (scale-cancel (Hs v) _ _ (scale-cancel (Hs w) _ _ chain))
  where
    a : Point
    a = √2^ (Hs v)

    b : Point
    b = √2^ (Hs w)

    c : Point
    c = √2^ s.k

    d : Point
    d = √2^ r.k

    chain : scale b (scale a (scale d (of_state s))) ≡ scale b (scale a (scale c (of_state r)))
    chain =
        ap (scale b) (scale-swap a d (of_state s) ∙ ap (scale d) (sym e.exactly)) ∙ scale-swap b d (scale c (product v)) ∙ ap (scale d) (scale-swap b c (product v) ∙ ap (scale c) m.is)
        ∙ scale-swap d c (scale a (product w)) ∙ ap (scale c) (scale-swap d a (product w) ∙ ap (scale a) f.exactly ∙ scale-swap a b (of_state r)) ∙ scale-swap c b (scale a (of_state r)) ∙ ap (scale b) (scale-swap c a (of_state r))

not_rest : Rule (λ p q. not (not (odd p) && not (side p))) (λ p q. not (rest p))
not_rest = record { test = refl }

pub ready_reduced : (r : ℕ) (s : State) → Ready r s → Reduced s
ready_reduced r s h = record { equation = h.equation; whole = go h.stage }
  where
    go : Stage r s → 1 ≤ s.k → not (rest (parities s.u)) ≡ true
    go (last k l n) j = absurd (omega arith)
    go (odds k o p n) j = rule not_rest (parities s.u) (parities s.u) (ap (λ b. not (not b && not (side (parities s.u)))) o)
    go (sides k o p n) j = rule not_rest (parities s.u) (parities s.u) (ap (λ b. not (not (odd (parities s.u)) && not b)) o ∙ no (odd (parities s.u)))
      where
        no : (b : Bool) → not (not b && false) ≡ true
        no true = refl
        no false = refl
