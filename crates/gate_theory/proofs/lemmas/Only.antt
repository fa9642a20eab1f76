-- Two words in normal form with one product are one word.
use Rattle.std.specs.Prelude.{◌≡◌, refl, Bool, true, false, List, [], ◌∷◌, ◌++◌, ℕ, suc, ◌%◌, ◌≤◌}
use Rattle.std.proofs.Common.{sym, ◌∙◌, ap, ap₂, subst, inl, inr, arith}
use Rattle.std.proofs.Math.Decide.{dec_le}
use Rattle.ring.specs.declared.Point.{Point}
use Rattle.gate_theory.specs.Bits.{xor, plain}
use Rattle.gate_theory.proofs.lemmas.Finite.{one_plain}
use Rattle.gate_theory.specs.Points.{turn, back}
use Rattle.gate_theory.specs.Parities.{parities, parities-turn}
use Rattle.gate_theory.specs.State.{State, Equation, is_plain, next, Stage, last, odds, sides, Ready}
use Rattle.gate_theory.proofs.lemmas.Equation.{at_some}
use Rattle.gate_theory.specs.Table.{Letter, T, tail}
use Rattle.gate_theory.specs.Word.{syllable, body, word, tail-Ts}
use Rattle.gate_theory.proofs.lemmas.Step.{branch}
use Rattle.gate_theory.specs.Matrix.{Matrix, ◌·◌, scale, matrix, product, Hs, √2^, Spells, made, of_state, scale-swap}
use Rattle.gate_theory.proofs.lemmas.Letters.{back-turn, T-made}
use Rattle.gate_theory.proofs.lemmas.Spelled.{goes_on, syllable-spells}
use Rattle.gate_theory.proofs.lemmas.Base.{tail-spells}
use Rattle.gate_theory.specs.Normal.{Same, rank, Alphabetical, ends, first, later, Leads, Tail, Body, tails, syllabic, Normal, plainly, with-T}
use Rattle.gate_theory.proofs.lemmas.Cancel.{scale-cancel}
use Rattle.gate_theory.proofs.lemmas.Unique.{Reduced, Alike, spelled-alike, ready_reduced}
use Rattle.gate_theory.proofs.Tailed.{clifford, tail-is, normal}
use Rattle.gate_theory.proofs.lemmas.Least.{equation_turn}
use Rattle.gate_theory.proofs.Exact.{word-spells}
use Rattle.gate_theory.proofs.lemmas.Alike.{body_alike, spells_alike, bodies}
use Rattle.gate_theory.proofs.lemmas.Before.{prior}

-- ---- one tail
anti_at : {v w v' w' : List Letter} → Alphabetical v w → Alphabetical w' v' → v ≡ v' → w ≡ w' → v ≡ w
anti_at ends b p q = refl
anti_at (first l) ends p q = let z : ⊥ = cc in absurd z
anti_at (first {x} {y} l) (first {x = y'} {y = x'} m) p q =
    let e : x ≡ x' = cc in
    let f : y ≡ y' = cc in
    absurd (omega (arith, ap rank e, ap rank f))
anti_at (first {x} {y} l) (later {x = z} b) p q =
    let e : x ≡ z = cc in
    let f : y ≡ z = cc in
    absurd (omega (arith, ap rank e, ap rank f))
anti_at (later a) ends p q = let z : ⊥ = cc in absurd z
anti_at (later {x} a) (first {x = y} {y = z} m) p q =
    let e : x ≡ z = cc in
    let f : x ≡ y = cc in
    absurd (omega (arith, ap rank e, ap rank f))
anti_at (later {x} {v} {w} a) (later {v = w'} {w = v'} b) p q =
    let e : v ≡ v' = cc in
    let f : w ≡ w' = cc in
    ap (λ t. x ∷ t) (anti_at a b e f)

anti : (v w : List Letter) → Alphabetical v w → Alphabetical w v → v ≡ w
anti v w a b = anti_at a b refl refl

leads_anti : (v w : List Letter) → Leads v w → Leads w v → v ≡ w
leads_anti v w (inl a) (inl b) = absurd (omega arith)
leads_anti v w (inl a) (inr b) = absurd (omega (arith, b.0))
leads_anti v w (inr a) (inl b) = absurd (omega (arith, a.0))
leads_anti v w (inr a) (inr b) = anti v w a.1 b.1

pub same_of : (v w : List Letter) (k : ℕ) (m : Matrix) → Spells v k m → Spells w k m → Same v w
same_of v w k m e f = record { is = scale-cancel k _ _ (scale-swap (√2^ k) (√2^ (Hs w)) (product v) ∙ ap (scale (√2^ (Hs w))) e.exactly ∙ scale-swap (√2^ (Hs w)) (√2^ (Hs v)) m ∙ ap (scale (√2^ (Hs v))) (sym f.exactly) ∙ scale-swap (√2^ (Hs v)) (√2^ k) (product w)) }

same-sym : (v w : List Letter) → Same v w → Same w v
same-sym v w m = record { is = sym m.is }

-- ---- a body is the word of its state
record Known (w : List Letter) : Type 0 where
  r : ℕ
  s : State
  ready : Ready r s
  spells : Spells w s.k (of_state s)
  is : w ≡ body r s

tail-known : (w : List Letter) → Tail w → Known w
unfolding body
tail-known w t =
    let c = clifford w t.free in
    let s = c.state in
    let m = same_of w (tail s) s.k (of_state s) c.spells (tail-spells s c.ready) in
    record { r = 0; s = s; ready = c.ready; spells = c.spells; is = leads_anti w (tail s) (t.least (tail s) (tail-Ts s) (same-sym w (tail s) m)) ((tail-is s c.ready).least w t.free m) }

step-known : (b : Bool) (w : List Letter) → Known w → Known (syllable b ++ w)
unfolding body
step-known b w k =
    let p = prior k.r b k.s k.ready in
    let q = p.state in
    let a = p.step in
    let e : Spells w (next q).k (of_state (next q)) = spells_alike w k.s (next q) (record { k = sym a.k; u = sym a.u; t = sym a.t; l = sym a.l }) k.spells in
    record {
      r = suc k.r;
      s = q;
      ready = p.ready;
      spells = subst (λ c. Spells (syllable c ++ w) q.k (of_state q)) p.bare (syllable-spells k.r q w (branch k.r q p.ready) e);
      is = ap₂ (λ c v. syllable c ++ v) (sym p.bare) (k.is ∙ sym (body_alike k.r (next q) k.s a));
    }

known : (w : List Letter) → Body w → Known w
known w (tails t) = tail-known w t
known w (syllabic b h) = step-known b _ (known _ h)

-- ---- T in front
abbrev T-state : State → State
T-state s = record { k = s.k; u = s.u; t = turn s.t; l = suc s.l }

T-spells : (w : List Letter) (s : State) → Spells w s.k (of_state s) → Spells (T ∷ w) s.k (of_state (T-state s))
T-spells w s e = record { exactly = goes_on (T ∷ []) w s.k (of_state s) e ∙ ap (scale (√2^ (Hs w))) (ap (λ t. matrix T · made s.u t s.l) (sym (back-turn s.t)) ∙ T-made s.u (turn s.t) s.l) }

T-reduced : (r : ℕ) (s : State) → Ready r s → Reduced (T-state s)
T-reduced r s h = let e = ready_reduced r s h in record { equation = equation_turn s.k s.u s.t e.equation; whole = e.whole }

stage_plain : (r : ℕ) (s : State) → 1 ≤ s.k → Stage r s → is_plain s ≡ true
stage_plain r s j (last k l n) = absurd (omega arith)
stage_plain r s j (odds k o p n) = p
stage_plain r s j (sides k o p n) = p

stage_even : (r : ℕ) (s : State) → s.k ≡ 0 → Stage r s → s.l % 2 ≡ 0
stage_even r s j (last k l n) = l
stage_even r s j (odds k o p n) = absurd (omega arith)
stage_even r s j (sides k o p n) = absurd (omega arith)

xor-both : (a b : Bool) → xor a b ≡ true → a ≡ true → b ≡ true → ⊥
xor-both true true e f g = let z : ◌≡◌ {A = ℕ} 0 1 = cc in omega arith
xor-both true false e f g = let z : ◌≡◌ {A = ℕ} 0 1 = cc in omega arith
xor-both false b e f g = let z : ◌≡◌ {A = ℕ} 0 1 = cc in omega arith

-- a word without T in front and one with it differ
T-apart : (m n : ℕ) (s r : State) → Ready m s → Ready n r → Alike s (T-state r) → ⊥
T-apart m n s r a b h = elim (dec_le 1 s.k) [ yes k ↦ above k | no k ↦ zeroth (omega arith) ]
  where
    zeroth : s.k ≡ 0 → ⊥
    zeroth k = omega (arith, stage_even m s k a.stage, stage_even n r (sym h.k ∙ k) b.stage, h.l)

    above : 1 ≤ s.k → ⊥
    above k =
        let j : 1 ≤ r.k = omega (arith, h.k) in
        xor-both _ _ (one_plain (parities r.u) (parities r.t) (at_some r.k r.u r.t j b.equation) ((ready_reduced n r b).whole j)).0 (stage_plain n r j b.stage)
        (ap (plain (parities r.u)) (sym (parities-turn r.t)) ∙ sym (ap₂ (λ u t. plain (parities u) (parities t)) h.u h.t) ∙ stage_plain m s k a.stage)

T-alike : (s r : State) → Alike (T-state s) (T-state r) → Alike s r
T-alike s r h = record { k = h.k; u = h.u; t = sym (back-turn s.t) ∙ ap back h.t ∙ back-turn r.t; l = omega (arith, h.l) }

pub only : (v w : List Letter) → Normal v → Normal w → Same v w → v ≡ w
only v w (plainly a) (plainly b) m =
    let x = known v a in
    let y = known w b in
    let h = spelled-alike v w x.s y.s (ready_reduced x.r x.s x.ready) (ready_reduced y.r y.s y.ready) m x.spells y.spells in
    x.is ∙ bodies x.r y.r x.s y.s h x.ready y.ready ∙ sym y.is
only v w (plainly a) (with-T {w = w'} b) m =
    let x = known v a in
    let y = known w' b in
    absurd (T-apart x.r y.r x.s y.s x.ready y.ready (spelled-alike v (T ∷ w') x.s (T-state y.s) (ready_reduced x.r x.s x.ready) (T-reduced y.r y.s y.ready) m x.spells (T-spells w' y.s y.spells)))
only v w (with-T {w = v'} a) (plainly b) m =
    let x = known v' a in
    let y = known w b in
    absurd (T-apart y.r x.r y.s x.s y.ready x.ready (spelled-alike w (T ∷ v') y.s (T-state x.s) (ready_reduced y.r y.s y.ready) (T-reduced x.r x.s x.ready) (same-sym (T ∷ v') w m) y.spells (T-spells v' x.s x.spells)))
only v w (with-T {w = v'} a) (with-T {w = w'} b) m =
    let x = known v' a in
    let y = known w' b in
    let h = spelled-alike (T ∷ v') (T ∷ w') (T-state x.s) (T-state y.s) (T-reduced x.r x.s x.ready) (T-reduced y.r y.s y.ready) m (T-spells v' x.s x.spells) (T-spells w' y.s y.spells) in
    ap (λ t. T ∷ t) (x.is ∙ bodies x.r y.r x.s y.s (T-alike x.s y.s h) x.ready y.ready ∙ sym y.is)

-- no other word in normal form spells the matrix
pub only_word : (k : ℕ) (u t : Point) → Equation k u t → (w : List Letter) → Normal w → Spells w k (made u t 0) → w ≡ word k u t
only_word k u t e w n s = only w (word k u t) n (normal k u t e) (same_of w (word k u t) k (made u t 0) s (word-spells k u t e))
