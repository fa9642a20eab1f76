-- Every word in H, S and W spells a state that no syllable is left for, whose tail leads it: so the tails of the table are tails.
use Rattle.std.specs.Prelude.{◌≡◌, refl, Bool, true, false, cond, List, [], ◌∷◌, ℕ, zero, suc, ◌/◌, ◌%◌, ◌≤◌, pos}
use Rattle.std.proofs.Common.{sym, ◌∙◌, ap, ap₂, arith}
use Rattle.integers.specs.lemmas.Booleans.{both_true}
use Rattle.integers.specs.lemmas.Ring.{poly, by_ring}
use Rattle.ring.specs.declared.Point.{Point}
use Rattle.ring.specs.Point.{◌+ω◌, ◌*ω◌, numω, √2ω, √2ω_sq, ringω, sum-parts, *ω-comm, *ω-assoc}
use Rattle.ring.specs.Point.Divide.{halves, times-injective}
use Rattle.gate_theory.specs.Bits.{rest, none}
use Rattle.gate_theory.specs.Points.{halved, minus_parts}
use Rattle.gate_theory.specs.Parities.{parities, parities-+, parities--}
use Rattle.gate_theory.specs.State.{State, Equation, Ready}
use Rattle.gate_theory.proofs.lemmas.Halving.{halved-twice, over-√2}
use Rattle.gate_theory.specs.Table.{Letter, H, S, T, W, tail, tail_at}
use Rattle.gate_theory.specs.Word.{Ts, tail-Ts, word}
use Rattle.gate_theory.specs.Matrix.{Matrix, ◌·◌, scale, matrix, product, Hs, √2^, Spells, made, of_state, ext, scale-scale, scale-swap}
use Rattle.gate_theory.proofs.lemmas.Letters.{S-made, W-made, H-made, made-√2}
use Rattle.gate_theory.proofs.lemmas.Run.{start, start_is}
use Rattle.gate_theory.proofs.lemmas.Spelled.{goes_on, same, more}
use Rattle.gate_theory.proofs.lemmas.Moves.{number, k_of, u_of, t_of, exact, moved, plus, less, halving}
use Rattle.gate_theory.proofs.lemmas.Order.{leads, before, free}
use Rattle.gate_theory.specs.Normal.{Tail, Normal}
use Rattle.gate_theory.proofs.Normal.{word-normal}
use Rattle.gate_theory.proofs.lemmas.Base.{tail-spells}
use Rattle.gate_theory.proofs.lemmas.Unique.{Alike, spelled-alike, ready_reduced}
use Rattle.gate_theory.proofs.lemmas.Shortest.{base-of, of_base, exact-is, moved_ready, moved-number}

-- ---- √2 goes out
root-cancel : (m n : Matrix) → scale √2ω m ≡ scale √2ω n → m ≡ n
root-cancel m n e = ext (one _ _ (ap (λ x. x.a) e)) (one _ _ (ap (λ x. x.b) e)) (one _ _ (ap (λ x. x.c) e)) (one _ _ (ap (λ x. x.d) e))
  where
    one : (x y : Point) → √2ω *ω x ≡ √2ω *ω y → x ≡ y
    one x y h = times-injective x y (*ω-comm x √2ω ∙ h ∙ *ω-comm √2ω y)

lowered : (w : List Letter) (k : ℕ) (m : Matrix) → Spells w (suc k) (scale √2ω m) → Spells w k m
lowered w k m e = record { exactly = root-cancel _ _ (scale-scale √2ω (√2^ k) (product w) ∙ ap (λ r. scale r (product w)) (*ω-comm √2ω (√2^ k)) ∙ e.exactly ∙ scale-swap (√2^ (Hs w)) √2ω m) }

doubled : (v : Point) → v +ω v ≡ v *ω √2ω *ω √2ω
doubled v = two v ∙ ap (λ t. v *ω t) (sym √2ω_sq) ∙ sym (*ω-assoc v √2ω √2ω)
  where
    two : (v : Point) → v +ω v ≡ v *ω numω (pos 2)
    two v = by_ring ringω (v ∷ []) (search poly depth 20) refl

-- ---- a letter before a word
letter-spells : (x : Letter) (w : List Letter) (k : ℕ) (m n : Matrix) → Hs (x ∷ w) ≡ Hs w → matrix x · m ≡ n → Spells w k m → Spells (x ∷ w) k n
letter-spells x w k m n h p e = record { exactly = goes_on (x ∷ []) w k m e ∙ ap (scale (√2^ (Hs w))) p ∙ ap (λ j. scale (√2^ j) n) (sym h) }

H-parts : (u t : Point) (l : ℕ) → matrix H · made u t l ≡ made (plus u t) (less u t) (suc (suc (suc (suc l))))
H-parts u t l = H-made u t l ∙ ap₂ (λ u t. made u t (suc (suc (suc (suc l))))) (sum-parts u t) (minus_parts u t)

less-parities : (u t : Point) → parities (less u t) ≡ parities (plus u t)
less-parities u t = ap parities (sym (minus_parts u t)) ∙ parities-- u t ∙ sym (parities-+ u t) ∙ ap parities (sum-parts u t)

H-spells : (w : List Letter) (u t : Point) (l : ℕ) (b : Bool) → none (parities (plus u t)) ≡ b → rest (parities (plus u t)) ≡ true → rest (parities (less u t)) ≡ true
    → Spells w 1 (made u t l) → Spells (H ∷ w) (cond b 0 1) (made (halving b (plus u t)) (halving b (less u t)) (suc (suc (suc (suc l)))))
H-spells w u t l true b p q e = lowered (H ∷ w) 0 _ (same (H ∷ []) w 1 (made u t l) _ refl (H-parts u t l ∙ ap₂ (λ u t. made u t (suc (suc (suc (suc l))))) (out (plus u t) b) (out (less u t) (ap none (less-parities u t) ∙ b)) ∙ made-√2 (halved (plus u t) *ω √2ω) (halved (less u t) *ω √2ω) (suc (suc (suc (suc l)))) ∙ ap (scale √2ω) (made-√2 (halved (plus u t)) (halved (less u t)) (suc (suc (suc (suc l)))))) e)
  where
    out : (v : Point) → none (parities v) ≡ true → v ≡ halved v *ω √2ω *ω √2ω
    out v n = halved-twice v n ∙ doubled (halved v)
H-spells w u t l false b p q e = same (H ∷ []) w 1 (made u t l) _ refl (H-parts u t l ∙ ap₂ (λ u t. made u t (suc (suc (suc (suc l))))) (sym (over-√2 (plus u t) p)) (sym (over-√2 (less u t) q)) ∙ made-√2 (halves (plus u t)) (halves (less u t)) (suc (suc (suc (suc l))))) e

H-moved : (k : ℕ) (u t : Point) (l : ℕ) (w : List Letter) → k ≤ 1 → exact (record { k = k; u = u; t = t; l = 0 }) ≡ true → Spells w k (made u t l) → Spells (H ∷ w) (k_of H k u t) (made (u_of H k u t) (t_of H k u t) (suc (suc (suc (suc l)))))
H-moved zero u t l w h x e = more (H ∷ []) w 0 (made u t l) _ refl (H-parts u t l) e
H-moved (suc zero) u t l w h x e = let f = both_true (rest (parities (plus u t))) (rest (parities (less u t))) x in H-spells w u t l (none (parities (plus u t))) refl f.0 f.1 e
H-moved (suc (suc k)) u t l w h x e = absurd (omega arith)

moved-spells : (x : Letter) (w : List Letter) (s : State) → Ready 0 s → (x ≡ T → ⊥) → Spells w s.k (of_state s) → Spells (x ∷ w) (moved x s).k (of_state (moved x s))
moved-spells H w s h n e = H-moved s.k s.u s.t s.l w (base-of s h).1 (exact-is s h) e
moved-spells S w s h n e = letter-spells S w s.k (of_state s) _ refl (S-made s.u s.t s.l) e
moved-spells T w s h n e = absurd (n refl)
moved-spells W w s h n e = letter-spells W w s.k (of_state s) _ refl (W-made s.u s.t s.l) e

-- ---- every word without T
pub record Clifford (v : List Letter) : Type 0 where
  pub state : State
  pub ready : Ready 0 state
  pub spells : Spells v state.k (of_state state)
  pub leading : number (tail state) ≤ number v

not_T : (x : Letter) (w : List Letter) → Ts (x ∷ w) ≡ 0 → x ≡ T → ⊥
not_T H w e p = let z : ◌≡◌ {A = ℕ} 0 1 = cc in omega arith
not_T S w e p = let z : ◌≡◌ {A = ℕ} 0 1 = cc in omega arith
not_T T w e p = omega arith
not_T W w e p = let z : ◌≡◌ {A = ℕ} 0 1 = cc in omega arith

pub clifford : (v : List Letter) → Ts v ≡ 0 → Clifford v
unfolding tail
clifford [] e = record {
  state = record { k = 0; u = start.u; t = start.t; l = 0 };
  ready = of_base 0 start.u start.t 0 refl refl;
  spells = record { exactly = ap (scale (numω (pos 1))) start_is };
  leading = omega arith;
}
clifford (x ∷ v) e =
    let c = clifford v (free x v e) in
    let n = not_T x v e in
    record {
      state = moved x c.state;
      ready = moved_ready c.state c.ready x n;
      spells = moved-spells x v c.state c.ready n c.spells;
      leading = omega (arith, moved-number c.state c.ready x n, before x (tail c.state) v (tail-Ts c.state) c.leading);
    }

alike_tails : (s r : State) → Alike s r → tail s ≡ tail r
unfolding tail
alike_tails s r h = ap₂ (λ u t. tail_at u t (s.l % 8 / 2)) h.u h.t ∙ ap (λ m. tail_at r.u r.t (m / 2)) h.l

pub tail-is : (s : State) → Ready 0 s → Tail (tail s)
tail-is s h = record {
  free = tail-Ts s;
  least = λ v e m. let c = clifford v e in
      let a = spelled-alike v (tail s) c.state s (ready_reduced 0 c.state c.ready) (ready_reduced 0 s h) m c.spells (tail-spells s h) in
      leads (tail s) v (tail-Ts s) e (omega (arith, c.leading, ap number (alike_tails c.state s a)));
}

-- the word of a matrix is in normal form
pub normal : (k : ℕ) (u t : Point) → Equation k u t → Normal (word k u t)
normal = word-normal tail-is
