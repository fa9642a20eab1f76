-- The word of a state spells its matrix, given that the tails spell theirs.
use Rattle.std.specs.Prelude.{◌≡◌, refl, Bool, true, false, cond, List, ◌++◌}
use Rattle.std.proofs.Common.{sym, ◌∙◌, ap, ap₂, subst, arith}
use Prim.Native.Nat.{ℕ, zero, suc, ◌+◌, ◌-◌}
use Rattle.ring.specs.declared.Point.{Point}
use Rattle.ring.specs.Point.{◌+ω◌, ◌-ω◌, ◌*ω◌, √2ω, *ω-comm}
use Rattle.ring.specs.Point.Divide.{halves}
use Rattle.gate_theory.specs.Points.{turn, back, halved, turn-√2}
use Rattle.gate_theory.specs.Parities.{parities}
use Rattle.gate_theory.specs.State.{State, is_bare, unturn, plus, less, next, Ready}
use Rattle.gate_theory.proofs.lemmas.Halving.{Halves}
use Rattle.gate_theory.proofs.lemmas.Step.{shift, next-even, next-not, halves-even, halves-rest, full-rest, Branch, evens, fulls, branch, step}
use Rattle.gate_theory.specs.Table.{Letter, H, S, T, tail}
use Rattle.gate_theory.specs.Word.{syllable, body}
use Rattle.gate_theory.specs.Matrix.{Matrix, ◌·◌, scale, one, matrix, prefixed, product, Hs, √2^, Spells, made, of_state, prefixed-scale, prefixed-++, scale-scale, scale-swap}
use Rattle.gate_theory.proofs.lemmas.Letters.{turn-back, T-made, S-made, H-made, made-eight, made-√2}

-- ---- a syllable on the left
syllable-made : (b : Bool) (x y : Point) (l : ℕ) → prefixed (syllable b) (made x (back y) (l + cond b 3 1)) ≡ made (x +ω y) (cond b (x -ω y) (turn (turn (x -ω y)))) l
syllable-made true x y l =
    let e : l + 3 ≡ suc (suc (suc l)) = omega arith in
    ap (λ n. matrix H · (matrix T · made x (back y) n)) e ∙ ap (λ m. matrix H · m) (T-made x y (suc (suc (suc l)))) ∙ H-made x y (suc (suc (suc (suc l)))) ∙ made-eight (x +ω y) (x -ω y) l
syllable-made false x y l =
    let e : l + 1 ≡ suc l = omega arith in
    ap (λ n. matrix S · (matrix H · (matrix T · made x (back y) n))) e ∙ ap (λ m. matrix S · (matrix H · m)) (T-made x y (suc l)) ∙ ap (λ m. matrix S · m) (H-made x y (suc (suc l)))
    ∙ S-made (x +ω y) (x -ω y) (suc (suc (suc (suc (suc (suc l)))))) ∙ made-eight (x +ω y) (turn (turn (x -ω y))) l

syllable-Hs : (b : Bool) (w : List Letter) → Hs (syllable b ++ w) ≡ suc (Hs w)
syllable-Hs true w = refl
syllable-Hs false w = refl

-- with x + y and x − y of the state's own u and i^(−b) t, or of √2 times these
cond_turn : (b : Bool) (t : Point) → cond b (cond b t (back (back t))) (turn (turn (cond b t (back (back t))))) ≡ t
cond_turn true t = refl
cond_turn false t = ap turn (turn-back (back t)) ∙ turn-back t

cond-√2 : (b : Bool) (z : Point) → cond b (z *ω √2ω) (turn (turn (z *ω √2ω))) ≡ cond b z (turn (turn z)) *ω √2ω
cond-√2 true z = refl
cond-√2 false z = ap turn (turn-√2 z) ∙ turn-√2 (turn z)

module _ (s : State) (x y : Point) where
  syllable-halves : Halves s.u (unturn s) x y → prefixed (syllable (is_bare s)) (made x (back y) (s.l + shift s)) ≡ of_state s
  syllable-halves h = syllable-made (is_bare s) x y s.l ∙ ap₂ (λ u z. made u (cond (is_bare s) z (turn (turn z))) s.l) (sym h.sum) (sym h.difference) ∙ ap (λ t. made s.u t s.l) (cond_turn (is_bare s) s.t)

  syllable-√2 : Halves (s.u *ω √2ω) (unturn s *ω √2ω) x y → prefixed (syllable (is_bare s)) (made x (back y) (s.l + shift s)) ≡ scale √2ω (of_state s)
  syllable-√2 h =
      syllable-made (is_bare s) x y s.l ∙ ap₂ (λ u z. made u (cond (is_bare s) z (turn (turn z))) s.l) (sym h.sum) (sym h.difference)
      ∙ ap (λ t. made (s.u *ω √2ω) t s.l) (cond-√2 (is_bare s) (unturn s) ∙ ap (λ t. t *ω √2ω) (cond_turn (is_bare s) s.t)) ∙ made-√2 s.u s.t s.l

-- ---- a word that goes on
pub goes_on : (v w : List Letter) (k : ℕ) (m : Matrix) → Spells w k m → scale (√2^ k) (product (v ++ w)) ≡ scale (√2^ (Hs w)) (prefixed v m)
goes_on v w k m e = ap (scale (√2^ k)) (prefixed-++ v w one) ∙ sym (prefixed-scale v (√2^ k) (product w)) ∙ ap (prefixed v) e.exactly ∙ prefixed-scale v (√2^ (Hs w)) m

pub same : (v w : List Letter) (k : ℕ) (m n : Matrix) → Hs (v ++ w) ≡ suc (Hs w) → prefixed v m ≡ scale √2ω n → Spells w k m → Spells (v ++ w) k n
same v w k m n h p e = record { exactly = goes_on v w k m e ∙ ap (scale (√2^ (Hs w))) p ∙ scale-scale (√2^ (Hs w)) √2ω n ∙ ap (λ j. scale (√2^ j) n) (sym h) }

pub more : (v w : List Letter) (k : ℕ) (m n : Matrix) → Hs (v ++ w) ≡ suc (Hs w) → prefixed v m ≡ n → Spells w k m → Spells (v ++ w) (suc k) n
more v w k m n h p e = record {
  exactly =
      ap (λ r. scale r (product (v ++ w))) (*ω-comm (√2^ k) √2ω) ∙ sym (scale-scale √2ω (√2^ k) (product (v ++ w))) ∙ ap (scale √2ω) (goes_on v w k m e ∙ ap (scale (√2^ (Hs w))) p)
      ∙ scale-swap √2ω (√2^ (Hs w)) n ∙ scale-scale (√2^ (Hs w)) √2ω n ∙ ap (λ j. scale (√2^ j) n) (sym h);
}

pub syllable-spells : (r : ℕ) (s : State) (w : List Letter) → Branch s → Spells w (next s).k (of_state (next s)) → Spells (syllable (is_bare s) ++ w) s.k (of_state s)
syllable-spells r s w (evens k c) e =
    let f = subst (λ n. Spells w n.k (of_state n)) (next-even s c) e in
    let j : suc (s.k - 1) ≡ s.k = omega arith in
    subst (λ n. Spells (syllable (is_bare s) ++ w) n (of_state s)) j (more (syllable (is_bare s)) w (s.k - 1) _ _ (syllable-Hs (is_bare s) w) (syllable-halves s (halved (plus s)) (halved (less s)) (halves-even s c)) f)
syllable-spells r s w (fulls c) e =
    let d = full-rest (parities (plus s)) c in
    let f = subst (λ n. Spells w n.k (of_state n)) (next-not s d.1) e in
    same (syllable (is_bare s)) w s.k _ _ (syllable-Hs (is_bare s) w) (syllable-√2 s (halves (plus s)) (halves (less s)) (halves-rest s d.0)) f

module _ (tails : (s : State) → Ready 0 s → Spells (tail s) s.k (of_state s)) where
  pub body-spells : (r : ℕ) (s : State) → Ready r s → Spells (body r s) s.k (of_state s)
  unfolding body
  body-spells zero s h = tails s h
  body-spells (suc r) s h = syllable-spells r s (body r (next s)) (branch r s h) (body-spells r (next s) (step r s h))
